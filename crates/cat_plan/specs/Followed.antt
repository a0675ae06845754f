-- What a plan makes of a state.
use Rattle.std.specs.Prelude.{[]}
use Rattle.cat_model.specs.declared.types.State.{State}
use Rattle.cat_plan.specs.Amended.{amended}
use Rattle.cat_plan.specs.declared.following.Following.{Following}

-- the state h, in which rows are held as they are after an event, with the tables of m amended as planned
abbrev pub followed : Following → State → State → State
followed x m h =
    record h {
      records = amended x.records.records.put.items x.records.records.gone m.records;
      orphans = amended x.records.orphans.put.items x.records.orphans.gone m.orphans;
      number = x.records.number;
      marks = amended x.marks.marks.put.items x.marks.marks.gone m.marks;
      documents = amended [] x.marks.documents m.documents;
      ticket = x.marks.ticket;
    }
