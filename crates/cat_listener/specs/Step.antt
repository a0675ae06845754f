-- What a server makes of the bytes of a connection.
use Rattle.std.specs.Prelude.{⊤, ℕ, ◌≤◌, Bool, true, false, List, []}
use Rattle.cat_listener.specs.declared.step.Text.{Text}
use Rattle.cat_listener.specs.declared.step.Text.TheVariants.{Made, Fixed}
use Rattle.cat_listener.specs.declared.step.Step.{Step}
use Rattle.cat_listener.specs.declared.step.Step.TheVariants.{Reply, Last, More}

-- the bytes of a reply
abbrev pub text_bytes : Text → List ℕ
text_bytes (Made bytes) = bytes.items
text_bytes (Fixed bytes) = bytes.now

-- how many bytes at the front are done with after a step
abbrev pub bytes_used : Step → ℕ
bytes_used (Reply used text) = used
bytes_used (Last text) = 0
bytes_used (More blank part) = blank

-- the bytes with which a step replies
abbrev pub reply_of : Step → List ℕ
reply_of (Reply used text) = text_bytes text
reply_of (Last text) = text_bytes text
reply_of (More blank part) = []

-- the connection ends with the reply
abbrev pub ends_it : Step → Bool
ends_it (Reply used text) = false
ends_it (Last text) = true
ends_it (More blank part) = false

-- A step is done with no more bytes than there are.
abbrev pub IsWithin : ℕ → Step → Type 0
IsWithin length (Reply used text) = used ≤ length
IsWithin length (Last text) = ⊤
IsWithin length (More blank part) = blank ≤ length
