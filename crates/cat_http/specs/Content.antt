-- What the body of a reply is.
use Rattle.std.specs.Prelude.{ℕ, Bool, true, false, List, [], ◌++◌, codes}
use Rattle.cat_http.specs.declared.content.Content.{Content}
use Rattle.cat_http.specs.declared.content.Content.TheVariants.{Json, Line, Document, Style, Script, Picture}

-- the media type of a content (RFC 9110, section 8.3.1)
abbrev pub media_type : Content → List ℕ
media_type Json = codes "application/json"
media_type Line = codes "text/plain; charset=utf-8"
media_type Document = codes "text/html; charset=utf-8"
media_type Style = codes "text/css; charset=utf-8"
media_type Script = codes "text/javascript; charset=utf-8"
media_type Picture = codes "image/svg+xml"

-- what a browser may do with the page: run and ask what the server itself has, and nothing else (Content Security Policy Level 3); a body is of no
-- other type than the one that is told, and is asked for again each time
abbrev pub browser_rules : List ℕ
browser_rules =
    codes "Content-Security-Policy: default-src 'none'; script-src 'self'; style-src 'self'; connect-src 'self'; img-src 'self'; base-uri 'none'; form-action 'none'; frame-ancestors 'none'\r\nX-Content-Type-Options: nosniff\r\nCache-Control: no-cache\r\n"

-- whether a browser is told what it may do with a body
abbrev pub has_rules : Content → Bool
has_rules Json = false
has_rules _ = true

-- the fields that tell a browser what it may do with a body: none with JSON, whose replies stay as programs know them
abbrev pub rules_of : Content → List ℕ
rules_of Json = []
rules_of _ = browser_rules
