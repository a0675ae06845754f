use Rattle.std.proofs.Common.{◌∙◌}
use Rattle.cat_desk.specs.Deed.{deed_of}
use Rattle.cat_shared.proofs.Keeping.{does_counted, does_noted, does_replay, does_settings, does_sound, does_unnoted}
use Rattle.cat_shared.proofs.book.Book.act.Goals as goal

pub invariant_of-self-in-Some : goal.invariant_of-self-in-Some
invariant_of-self-in-Some g c =
    let rules = g.L.Layers.rules in
    let desk = g.B.TimedDesk in
    let named = g.N.Named in
    let old = c.args.self.now in
    let was = desk.ledger old.desk in
    let is = desk.ledger c.act_at-now.new.self in
    let now = desk.moment c.act_at-now.new.self in
    let d = deed_of c.args.command in
    let reply = c.act_at-now.result.1 in
    let after = c.push.new.self.all.items in
    let does = does_noted rules c.args.pass now d was is old.journal.all.items reply c.act_at-now.ensures.acts c.act_at-now.result.0 c.note.result c.in-Some.noted c.reserve.new.self.all.items after
    c.act_at-now.ensures.moment c.in-Some.is c.note.ensures c.reserve.ensures.all c.push.ensures.all in
    record {
      settings = does_settings rules named.settings named.opening c.args.pass now d was is old.journal.all.items after reply does ∙ old.settings;
      replayed = does_replay rules named.settings named.opening c.args.pass now d was is old.journal.all.items after reply does old.settings old.sound old.replayed;
      sound = does_sound rules named.settings named.opening c.args.pass now d was is old.journal.all.items after reply does old.sound;
      counted = does_counted rules named.settings named.opening c.args.pass now d was is old.journal.all.items after reply does named.faults (desk.faults old.desk) (desk.faults c.act_at-now.new.self)
          old.counted c.act_at-now.ensures.later c.act_at-now.ensures.cause;
    }

pub invariant_of-self-in_default-note : goal.invariant_of-self-in_default-note
invariant_of-self-in_default-note g c =
    let rules = g.L.Layers.rules in
    let desk = g.B.TimedDesk in
    let named = g.N.Named in
    let old = c.args.self.now in
    let was = desk.ledger old.desk in
    let is = desk.ledger c.act_at-now.new.self in
    let now = desk.moment c.act_at-now.new.self in
    let d = deed_of c.args.command in
    let reply = c.act_at-now.result.1 in
    let after = c.reserve.new.self.all.items in
    let does = does_unnoted rules c.args.pass now d was is old.journal.all.items reply c.act_at-now.ensures.acts c.act_at-now.result.0 c.note.result after
    c.act_at-now.ensures.moment c.in_default-note.is c.note.ensures c.reserve.ensures.all in
    record {
      settings = does_settings rules named.settings named.opening c.args.pass now d was is old.journal.all.items after reply does ∙ old.settings;
      replayed = does_replay rules named.settings named.opening c.args.pass now d was is old.journal.all.items after reply does old.settings old.sound old.replayed;
      sound = does_sound rules named.settings named.opening c.args.pass now d was is old.journal.all.items after reply does old.sound;
      counted = does_counted rules named.settings named.opening c.args.pass now d was is old.journal.all.items after reply does named.faults (desk.faults old.desk) (desk.faults c.act_at-now.new.self)
          old.counted c.act_at-now.ensures.later c.act_at-now.ensures.cause;
    }
