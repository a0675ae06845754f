use Rattle.std.proofs.Common.{◌≡◌, ap, ◌∙◌}
use Rattle.cat_row_reader.specs.Standing.{providers_of, records_of, rows_of, state_of, trees_of}
use Rattle.cat_row_reader.proofs.state.state_of.Goals as goal

pub returns : goal.returns
unfolding state_of
returns c =
    let rows = c.args.rows.now in
    let trees : c.in_ok-trees.trees ≡ trees_of rows = c.in_ok-trees.ensures in
    λ i. record {
      providers = (c.in_ok-inputs.ensures.providers ∙ ap (λ t. providers_of t rows) trees) i;
      shelf = c.in_ok-inputs.ensures.shelf i;
      rows = (c.in_ok-inputs.ensures.rows ∙ ap (λ t. rows_of t rows) trees) i;
      holders = c.in_ok-known.ensures.holders i;
      records = (c.in_ok-known.ensures.records ∙ ap (λ t. records_of t rows) trees) i;
      orphans = c.in_ok-known.ensures.orphans i;
      marks = c.new.ensures i;
      documents = c.empty.ensures i;
      arrival = c.counters_of-next.ensures.arrival i;
      number = c.counters_of-next.ensures.number i;
      token = 1;
      ticket = 1;
    }
