use Rattle.std.proofs.Common.{◌≡◌, ◌<◌, ◌^◌, true, drop}
use Rattle.std.specs.List.{list_all}
use Rattle.cat_requests.specs.Uids.{is_hex, hex_after, hex_value}
use Rattle.cat_requests.proofs.uid.hex_value.Given as goal

-- the digits that are left follow those of the number so far
abbrev pub invariant-loop-digit : goal.invariant-loop-digit
invariant-loop-digit l = record {
  hex : list_all is_hex (drop l.digit-index l.digits) ≡ true;
  value : hex_after l.number (drop l.digit-index l.digits) ≡ hex_value l.digits;
  below : l.number < 16 ^ l.digit-index;
}
