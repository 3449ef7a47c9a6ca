use Rattle.std.proofs.Common.{sym, ◌∙◌}
use Rattle.pdh_events.proofs.DutyLaws.{tells_none, none_there, not_false}
use Rattle.pdh_events.proofs.teller.FrameTeller.tells_parity.Goals as goal

pub returns-else-not-is_empty : goal.returns-else-not-is_empty
returns-else-not-is_empty g c tells =
    let own = c.self.inside in
    let last = c.is_empty-else-not-is_empty in
    let parity = none_there own.parity_slots.items _ c.is_empty.result c.is_empty.ensures c.if-not-is_empty.false (sym own.parity_slots.ok.0) in
    let path = none_there own.path_parity_slots.items _ last.result last.ensures (not_false last.result tells) (sym own.path_parity_slots.ok.0) in
    tells_none g.S.Shape.shape (sym c.self.invariant.parity_are ∙ parity) (sym c.self.invariant.path_parity_are ∙ path)
