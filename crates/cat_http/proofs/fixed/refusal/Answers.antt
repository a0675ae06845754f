use Rattle.cat_http.proofs.FixedLemmas.{head_size, head, host, coding, length_is, body}
use Rattle.cat_http.proofs.fixed.refusal.Goals as goal

pub returns-in-HeadSize : goal.returns-in-HeadSize
returns-in-HeadSize c = rw c.in-HeadSize.is head_size

pub returns-in-Head : goal.returns-in-Head
returns-in-Head c = rw c.in-Head.is head

pub returns-in-Host : goal.returns-in-Host
returns-in-Host c = rw c.in-Host.is host

pub returns-in-TransferCoding : goal.returns-in-TransferCoding
returns-in-TransferCoding c = rw c.in-TransferCoding.is coding

pub returns-in-Length : goal.returns-in-Length
returns-in-Length c = rw c.in-Length.is length_is

pub returns-in-Body : goal.returns-in-Body
returns-in-Body c = rw c.in-Body.is body
