-- The statuses of replies: their numbers and phrases.
use Rattle.std.specs.Prelude.{ℕ, Bool, true, false, List, codes}
use Rattle.cat_http.specs.declared.status.Status.{Status}
use Rattle.cat_http.specs.declared.status.Status.TheVariants as status

-- the number of a status
abbrev pub code : Status → ℕ
code status.Ok = 200
code status.NoContent = 204
code status.BadRequest = 400
code status.Unauthorized = 401
code status.Forbidden = 403
code status.NotFound = 404
code status.MethodNotAllowed = 405
code status.Conflict = 409
code status.Gone = 410
code status.PayloadTooLarge = 413
code status.RequestHeaderFieldsTooLarge = 431
code status.InternalServerError = 500
code status.NotImplemented = 501
code status.ServiceUnavailable = 503
code status.InsufficientStorage = 507

-- The phrase of a status (RFC 9110, section 15, but for the older phrase of 413; RFC 6585 for 431, RFC 4918 for 507).
abbrev pub phrase : Status → List ℕ
phrase status.Ok = codes "OK"
phrase status.NoContent = codes "No Content"
phrase status.BadRequest = codes "Bad Request"
phrase status.Unauthorized = codes "Unauthorized"
phrase status.Forbidden = codes "Forbidden"
phrase status.NotFound = codes "Not Found"
phrase status.MethodNotAllowed = codes "Method Not Allowed"
phrase status.Conflict = codes "Conflict"
phrase status.Gone = codes "Gone"
phrase status.PayloadTooLarge = codes "Payload Too Large"
phrase status.RequestHeaderFieldsTooLarge = codes "Request Header Fields Too Large"
phrase status.InternalServerError = codes "Internal Server Error"
phrase status.NotImplemented = codes "Not Implemented"
phrase status.ServiceUnavailable = codes "Service Unavailable"
phrase status.InsufficientStorage = codes "Insufficient Storage"

-- all replies have a body but those with status 204
abbrev pub has_content : Status → Bool
has_content status.NoContent = false
has_content _ = true

-- replies with status 405 say the methods of the path
abbrev pub has_methods : Status → Bool
has_methods status.MethodNotAllowed = true
has_methods _ = false

-- replies with status 401 ask for a token
abbrev pub has_challenge : Status → Bool
has_challenge status.Unauthorized = true
has_challenge _ = false
