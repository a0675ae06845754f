-- One name to unfold where a proof computes a session that is written out.
use Rattle.std.specs.Prelude.{⊤}
use Rattle.std.specs.Char.{encode_utf8}
use Rattle.std.specs.Str.{chars, is_utf8}
use Rattle.std.specs.Str.Lossy.{utf8_error_len, utf8_lossy, utf8_valid_len}
use Rattle.base64.proofs.OnLiterals.{base64_on_literals}
use Rattle.form_urlencoded.proofs.OnLiterals.{form_urlencoded_on_literals}
use Rattle.serde_json.proofs.OnLiterals.{serde_json_on_literals}
use Rattle.url.proofs.OnLiterals.{url_on_literals}
use Rattle.cat_types.specs.Names.{is_kind, is_name, is_namespace, is_subdomain, is_key, is_tag, is_location_type, is_shelf_name}
use Rattle.cat_types.specs.Reference.{named}
use Rattle.cat_types.specs.Reading.{reading}
use Rattle.cat_schema.specs.Rules.{rule_19, rule_20, rule_21, rule_22, rule_23, rule_24, of_metadata, of_spec, of_root, breaches}
use Rattle.cat_schema.specs.Faults.{field, members, values, keys, member_fields}
use Rattle.cat_target.specs.Base.{base_named}
use Rattle.cat_target.specs.Resolve.{base_url, url_name, pieces_before, step as up_or_down, file_text, file_name, joined_name, name_of}
use Rattle.cat_target.specs.Location.{spec_words, more_texts, target_texts, origin, base_of, type_of, is_optional}
use Rattle.cat_target.specs.Targets.{targets_of}
use Rattle.cat_inputs.specs.Reading.{tree_reading}
use Rattle.cat_inputs.specs.Inputs.{mutation_of}
use Rattle.cat_inputs.specs.Shelf.{shelf_reading}
use Rattle.cat_kinds.specs.Kinds.{namespace_of, kind_faults, relations_of}
use Rattle.cat_kinds.specs.Mentions.{mentions_in, mentions_by, mentions}
use Rattle.cat_stitch.specs.Uid.{uid}
use Rattle.cat_stitch.specs.Document.{document}
use Rattle.cat_process.specs.Process.{is_location, wanted_of, contents_of, schema_issues, reference_issues, target_issues, content_issues, entity_of, result_of, shelf_refs}
use Rattle.cat_process.specs.Offers.{origin_of, annotated, all_offers}
use Rattle.cat_model.specs.Step.{step}
use Rattle.cat_model.specs.Settle.{try_settle}
use Rattle.cat_session_lines.specs.Lines.{line_of}
use Rattle.cat_session_lines.specs.Queries.{cursor_of, query_of}
use Rattle.cat_session_lines.specs.References.{references_of}
use Rattle.cat_io.specs.Runs.{line_after, line_reply}
use Rattle.cat_session_model.specs.Session.{session_after, session_reply}

unfoldable pub on_literals : ⊤
unfolding chars is_utf8 encode_utf8 utf8_valid_len utf8_error_len utf8_lossy serde_json_on_literals base64_on_literals form_urlencoded_on_literals url_on_literals is_kind is_name is_namespace is_subdomain is_key is_tag is_location_type is_shelf_name named reading rule_19 rule_20 rule_21 rule_22 rule_23 rule_24 of_metadata of_spec of_root breaches field members values keys member_fields base_named base_url url_name pieces_before up_or_down file_text file_name joined_name name_of spec_words more_texts target_texts origin base_of type_of is_optional targets_of tree_reading mutation_of shelf_reading namespace_of kind_faults relations_of mentions_in mentions_by mentions uid document is_location wanted_of contents_of schema_issues reference_issues target_issues content_issues entity_of result_of shelf_refs origin_of annotated all_offers step try_settle cursor_of query_of references_of line_of line_after line_reply session_after session_reply
on_literals = tt
