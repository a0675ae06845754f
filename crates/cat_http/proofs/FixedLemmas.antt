-- The bytes of replies that are fixed.
use Rattle.std.proofs.Common.{◌≡◌, refl, true, false, codes}
use Rattle.std.specs.Fmt.{digits}
use Rattle.cat_http.specs.Reply.{reply_bytes}
use Rattle.cat_http.specs.Errors.{no_memory, refusal}
use Rattle.cat_http.specs.declared.message.Rule.TheVariants.{HeadSize, Head, Host, TransferCoding, Length, Body}

pub bare_close : codes "HTTP/1.1 507 Insufficient Storage\r\nContent-Type: application/json\r\nContent-Length: 60\r\nConnection: close\r\n\r\n" ≡ reply_bytes (no_memory true true)
unfolding digits
bare_close = refl

pub whole_close : codes "HTTP/1.1 507 Insufficient Storage\r\nContent-Type: application/json\r\nContent-Length: 60\r\nConnection: close\r\n\r\n{\"error\":{\"message\":\"memory\"},\"response\":{\"statusCode\":507}}" ≡ reply_bytes (no_memory true false)
unfolding digits
whole_close = refl

pub bare_open : codes "HTTP/1.1 507 Insufficient Storage\r\nContent-Type: application/json\r\nContent-Length: 60\r\n\r\n" ≡ reply_bytes (no_memory false true)
unfolding digits
bare_open = refl

pub whole_open : codes "HTTP/1.1 507 Insufficient Storage\r\nContent-Type: application/json\r\nContent-Length: 60\r\n\r\n{\"error\":{\"message\":\"memory\"},\"response\":{\"statusCode\":507}}" ≡ reply_bytes (no_memory false false)
unfolding digits
whole_open = refl

pub head_size : codes "HTTP/1.1 431 Request Header Fields Too Large\r\nContent-Type: application/json\r\nContent-Length: 63\r\nConnection: close\r\n\r\n{\"error\":{\"message\":\"head_size\"},\"response\":{\"statusCode\":431}}" ≡ reply_bytes (refusal HeadSize)
unfolding digits
head_size = refl

pub head : codes "HTTP/1.1 400 Bad Request\r\nContent-Type: application/json\r\nContent-Length: 58\r\nConnection: close\r\n\r\n{\"error\":{\"message\":\"head\"},\"response\":{\"statusCode\":400}}" ≡ reply_bytes (refusal Head)
unfolding digits
head = refl

pub host : codes "HTTP/1.1 400 Bad Request\r\nContent-Type: application/json\r\nContent-Length: 58\r\nConnection: close\r\n\r\n{\"error\":{\"message\":\"host\"},\"response\":{\"statusCode\":400}}" ≡ reply_bytes (refusal Host)
unfolding digits
host = refl

pub coding : codes "HTTP/1.1 501 Not Implemented\r\nContent-Type: application/json\r\nContent-Length: 69\r\nConnection: close\r\n\r\n{\"error\":{\"message\":\"transfer_coding\"},\"response\":{\"statusCode\":501}}" ≡ reply_bytes (refusal TransferCoding)
unfolding digits
coding = refl

pub length_is : codes "HTTP/1.1 400 Bad Request\r\nContent-Type: application/json\r\nContent-Length: 60\r\nConnection: close\r\n\r\n{\"error\":{\"message\":\"length\"},\"response\":{\"statusCode\":400}}" ≡ reply_bytes (refusal Length)
unfolding digits
length_is = refl

pub body : codes "HTTP/1.1 413 Payload Too Large\r\nContent-Type: application/json\r\nContent-Length: 58\r\nConnection: close\r\n\r\n{\"error\":{\"message\":\"body\"},\"response\":{\"statusCode\":413}}" ≡ reply_bytes (refusal Body)
unfolding digits
body = refl
