-- What a message that reads a file of the page does, and is answered.
use Rattle.std.proofs.Common.{◌≡◌, true, List, [], refl, ap, ◌∙◌, codes}
use Rattle.std.specs.Prelude.{Some, bytes_eq}
use Rattle.std.specs.declared.result.Result.TheVariants.{Ok}
use Rattle.cat_access.specs.Browser.{is_admitted, is_from_browser, no_access}
use Rattle.cat_api.specs.Wire.{Wired, after_requested, requested_answer, wire_after, wire_reply}
use Rattle.cat_connection.specs.Worded.{Word}
use Rattle.cat_http.specs.Reply.{reply_bytes}
use Rattle.cat_http.specs.declared.message.Message.{Message}
use Rattle.cat_http.specs.declared.status.Status.TheVariants as status
use Rattle.cat_model.specs.Catalogue.{Rules}
use Rattle.cat_page.specs.Files.{bytes, content, file_at}
use Rattle.cat_page.specs.declared.file.File.{File}
use Rattle.cat_requests.specs.Answers.{reply_to}
use Rattle.cat_requests.specs.Paths.{resource_at, resource_of}
use Rattle.cat_requests.specs.Requests.{admitted, reads, request_of, requested, verb_of, with_method}
use Rattle.cat_requests.specs.Routes.{route_of}
use Rattle.cat_requests.specs.declared.request.Request.TheVariants.{Page}
use Rattle.cat_requests.specs.declared.request.Verb.TheVariants.{Get}

-- it asks for the file
asked : (m : Message) (f : File) → is_admitted no_access m ≡ true → file_at m.path ≡ Some f → verb_of m.method ≡ Some Get → request_of m ≡ Ok (Page f)
unfolding request_of resource_of
asked m f admits there reading =
    ap (λ b. admitted b m) admits
    ∙ (ap (λ o. requested (resource_at o (route_of m.path) m.path) m) there ∙ ap (λ v. with_method (reads v) (Ok (Page f))) reading)

pub page_stays : (rules : Rules) (w : Wired) (word : Word) (m : Message) (f : File) → is_admitted no_access m ≡ true → file_at m.path ≡ Some f → verb_of m.method ≡ Some Get → wire_after rules w word m ≡ w
unfolding wire_after
page_stays rules w word m f admits there reading = ap (λ r. after_requested rules word r w) (asked m f admits there reading)

pub page_shown : (rules : Rules) (w : Wired) (word : Word) (m : Message) (f : File) → is_admitted no_access m ≡ true → file_at m.path ≡ Some f → verb_of m.method ≡ Some Get
    → wire_reply rules w word m ≡ reply_bytes (record { status = status.Ok; content = content f; body = bytes f; allow = []; close = m.last; bare = bytes_eq m.method (codes "HEAD"); browser = is_from_browser m })
unfolding wire_reply
page_shown rules w word m f admits there reading = ap (λ r. reply_bytes (reply_to m (requested_answer rules word r w))) (asked m f admits there reading)
