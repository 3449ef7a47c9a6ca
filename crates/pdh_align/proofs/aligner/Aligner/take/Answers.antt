-- The bits that are taken end no frame.
use Rattle.std.proofs.Common.{Bool, List, ◌++◌, take, drop, length-drop, sym, ap, ◌∙◌, arith}
use Rattle.std.proofs.lemmas.Bool.{false≢true}
use Rattle.pdh_bits.specs.BitOut.{BoundedBits}
use Rattle.pdh_align.proofs.Waiting.{adds_ring, adds_list, takes_wait}
use Rattle.pdh_align.proofs.ReadyFrames.{holds_search}
use Rattle.pdh_align.proofs.aligner.Aligner.take.Goals as goal

pub returns-then-not-self-clause-waits : goal.returns-then-not-self-clause-waits
returns-then-not-self-clause-waits g c line h =
    let rest : List Bool = drop c.args.from c.args.bits.now.bits in
    let held : List Bool = c.self.inside.held.bits in
    let frame : List Bool = c.self.inside.frame.bits in
    let ring : List Bool = c.clear_ready.new.held.bits in
    let list : List Bool = c.append_from.new.self.bits in
    let more = adds_list g.S.Shape.shape g.S.Shape.LEN c.self.inside.searching c.self.inside.fresh c.self.inside.signals c.self.inside.before c.self.inside.held c.self.inside.frame c.clear_ready.new.frame.bits ring list rest c.self.inside.search c.min-count.result
    (omega (arith, g.met.S.Shape.len_is, g.met.S.Shape.is_frame.some_slots)) c.self.invariant c.if-not-self.true (ap (λ (b : BoundedBits). b.bits) c.clear_ready.ensures.held) (ap (λ (b : BoundedBits). b.bits) c.clear_ready.ensures.frame)
    (ap (λ (b : BoundedBits). b.bits) c.append_from.ensures) (omega (arith, length-drop c.args.from c.args.bits.now.bits, c.min-count.ensures, c.requires.begun)) (λ below. omega (arith, c.min-count.ensures, c.len.ensures.count, c.LEN.ensures, below)) in
    takes_wait g.S.Shape.shape g.S.Shape.LEN c.self.inside.searching c.self.inside.fresh c.clear_ready.new.fresh c.self.inside.before (held ++ frame) (ring ++ list) (take c.min-count.result rest) c.self.inside.search c.self.inside.search c.args.self.now line
    g.met.S.Shape.is_frame g.met.S.Shape.len_is c.self.view_is c.clear_ready.ensures.fresh more.added (λ k. absurd (false≢true (sym c.if-not-self.true ∙ k))) h

pub invariant_of-self-2 : goal.invariant_of-self-2
invariant_of-self-2 g c =
    let rest : List Bool = drop c.args.from c.args.bits.now.bits in
    let more = adds_ring g.S.Shape.shape g.S.Shape.LEN c.self.inside.searching c.self.inside.fresh c.self.inside.signals c.self.inside.before c.self.inside.held c.self.inside.frame
    c.clear_ready.new.held.bits c.append_from-2.new.self.bits c.clear_ready.new.frame.bits rest c.self.inside.search c.push_all.new.self c.min-count-2.result c.self.invariant c.if-not-self.false
    (ap (λ (b : BoundedBits). b.bits) c.clear_ready.ensures.held) (ap (λ (b : BoundedBits). b.bits) c.clear_ready.ensures.frame) (ap (λ (b : BoundedBits). b.bits) c.append_from-2.ensures)
    (omega (arith, length-drop c.args.from c.args.bits.now.bits, c.min-count-2.ensures, c.requires.begun)) (λ below. omega (arith, c.min-count-2.ensures, c.held.ensures.count, c.LEN-2.ensures, below)) c.push_all.ensures in
    holds_search g.S.Shape.shape g.S.Shape.LEN c.self.inside.signals c.self.inside.searching c.clear_ready.new.fresh c.append_from-2.new.self c.clear_ready.new.frame c.push_all.new.self c.self.inside.before c.self.invariant.judges
    (ap (λ b. b.capacity) c.append_from-2.ensures ∙ ap (λ b. b.capacity) c.clear_ready.ensures.held ∙ c.self.invariant.room) (ap (λ b. b.capacity) c.clear_ready.ensures.frame ∙ c.self.invariant.list_room) c.self.invariant.three
    c.if-not-self.false c.clear_ready.ensures.fresh more.short more.empty more.begun.0 more.begun.1

pub returns-clause-waits : goal.returns-clause-waits
returns-clause-waits g c line h =
    let rest : List Bool = drop c.args.from c.args.bits.now.bits in
    let held : List Bool = c.self.inside.held.bits in
    let frame : List Bool = c.self.inside.frame.bits in
    let ring : List Bool = c.append_from-2.new.self.bits in
    let list : List Bool = c.clear_ready.new.frame.bits in
    let more = adds_ring g.S.Shape.shape g.S.Shape.LEN c.self.inside.searching c.self.inside.fresh c.self.inside.signals c.self.inside.before c.self.inside.held c.self.inside.frame
    c.clear_ready.new.held.bits ring list rest c.self.inside.search c.push_all.new.self c.min-count-2.result c.self.invariant c.if-not-self.false
    (ap (λ (b : BoundedBits). b.bits) c.clear_ready.ensures.held) (ap (λ (b : BoundedBits). b.bits) c.clear_ready.ensures.frame) (ap (λ (b : BoundedBits). b.bits) c.append_from-2.ensures)
    (omega (arith, length-drop c.args.from c.args.bits.now.bits, c.min-count-2.ensures, c.requires.begun)) (λ below. omega (arith, c.min-count-2.ensures, c.held.ensures.count, c.LEN-2.ensures, below)) c.push_all.ensures in
    takes_wait g.S.Shape.shape g.S.Shape.LEN c.self.inside.searching c.self.inside.fresh c.clear_ready.new.fresh c.self.inside.before (held ++ frame) (ring ++ list) (take c.min-count-2.result rest) c.self.inside.search c.push_all.new.self c.args.self.now line
    g.met.S.Shape.is_frame g.met.S.Shape.len_is c.self.view_is c.clear_ready.ensures.fresh more.added (λ k. c.push_all.ensures) h
