use Rattle.std.proofs.Common.{◌≡◌, drop, map}
use Rattle.std.specs.List.{list_any}
use Rattle.httparse.specs.Spans.{header_bytes}
use Rattle.cat_http.specs.Head.{is_fetch_name}
use Rattle.cat_http.proofs.fields.has_fetch_field.Given as goal

abbrev pub invariant-loop-field : goal.invariant-loop-field
invariant-loop-field l =
    list_any (λ f. is_fetch_name f.0) (map (header_bytes l.head) l.fields)
    ≡ list_any (λ f. is_fetch_name f.0) (map (header_bytes l.head) (drop l.field-index l.fields))
