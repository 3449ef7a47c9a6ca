use Rattle.std.proofs.Common.{◌≡◌, ℕ, map, List, [], cond, eqb, refl, sym, ap, subst, arith}
use Rattle.std.proofs.lemmas.Result.{on_ok_weaker, IfErr-weaker}
use Rattle.std.proofs.lemmas.List.{length-map}
use Rattle.std.proofs.lemmas.Bool.{ne_eqb}
use Rattle.pdh_shape.specs.Frame.{FrameShape}
use Rattle.pdh_tx.specs.Meaning.{plan_in, Plan, Supply, Meaning}
use Rattle.pdh_tx.specs.Held.{first_some, Readout}
use Rattle.pdh_tx.specs.Tributary.{placed_in, held_in, meaning_in}
use Rattle.pdh_tx.specs.Node.{Advance, Blocked, beginning, leads_slips, beginning_slips, taken_to, came_to}
use Rattle.pdh_tx.specs.Slipping.{read_to}
use Rattle.pdh_tx.proofs.Advancing.{advance_none}
use Rattle.pdh_tx.proofs.Telling.{tells_ok, tells_same, all_none}
use Rattle.pdh_tx.proofs.FrameStarts.{advance_change, begun_later, steps_inside}
use Rattle.pdh_tx.proofs.tributaries.Tributaries.begin.Goals as goal

pub returns-then-slot-gt0-clause-ok : goal.returns-then-slot-gt0-clause-ok
returns-then-slot-gt0-clause-ok g c =
    let s : FrameShape = g.S.Shape.shape in
    let plan : Plan = plan_in c.args.clock.now g.G.SlipLog.takes in
    let placed : _ → Plan → ℕ → Readout → Type 0 = placed_in g.C.Tx in
    let held : _ → Supply → ℕ → Readout → Type 0 = held_in g.C.Tx in
    let meaning = meaning_in g.C.Tx in
    let ms : List Meaning = map meaning c.args.self.now.list.items in
    advance_change placed held meaning plan ms _ c.args.self.now.list.items _ _ _ _ _ _ _ _ (λ size. []) _ _ _ (length-map c.args.self.now.list.items meaning)
    (λ j. refl) (λ j h. begun_later placed held meaning plan s c.args.path c.args.frame c.args.slot j (omega (arith, c.if-slot-gt0.true))) (λ j. refl) (λ j h. refl)
    (λ size e. ap first_some (steps_inside placed held meaning plan s c.args.path ms size c.args.frame c.args.slot c.if-slot-gt0.true))
    (advance_none placed held meaning plan ms _ (taken_to s c.args.path plan c.args.frame c.args.slot) _ _ c.requires.placed.made)

pub begin_frame-requires-clause-placed : goal.begin_frame-requires-clause-placed
begin_frame-requires-clause-placed g c j w e =
    let s : FrameShape = g.S.Shape.shape in
    let plan : Plan = plan_in c.args.clock.now g.G.SlipLog.takes in
    let zero : c.args.slot ≡ 0 = (let h = c.if-slot-gt0.false in omega arith) in
    let placed : _ → Plan → ℕ → Readout → Type 0 = placed_in g.C.Tx in
    let P : ℕ → Type 0 = λ t. placed w plan (taken_to s c.args.path plan c.args.frame t j) (read_to s c.args.path plan c.args.frame t j) in
    subst P zero (c.requires.placed.made j w e)

pub returns-clause-ok : goal.returns-clause-ok
returns-clause-ok g c =
    let s : FrameShape = g.S.Shape.shape in
    let plan : Plan = plan_in c.args.clock.now g.G.SlipLog.takes in
    let zero : c.args.slot ≡ 0 = (let h = c.if-slot-gt0.false in omega arith) in
    let placed : _ → Plan → ℕ → Readout → Type 0 = placed_in g.C.Tx in
    let held : _ → Supply → ℕ → Readout → Type 0 = held_in g.C.Tx in
    let ms : List Meaning = map (meaning_in g.C.Tx) c.args.self.now.list.items in
    let P : ℕ → Type 0 = λ t. Advance placed held ms plan c.args.self.now.list.items c.begin_frame.new.self.list.items (taken_to s c.args.path plan c.args.frame t) (came_to s c.args.path plan c.args.frame t 0) (read_to s c.args.path plan c.args.frame t) (read_to s c.args.path plan c.args.frame t)
    (λ size. beginning s c.args.path plan ms size c.args.frame t) (g.F.Feed.inputs c.args.feed.now) (g.F.Feed.inputs c.begin_frame.new.feed) in
    on_ok_weaker c.begin_frame.result (λ advance. subst P (sym zero) advance) c.begin_frame.ensures.ok

pub returns-clause-err : goal.returns-clause-err
returns-clause-err g c =
    let s : FrameShape = g.S.Shape.shape in
    let plan : Plan = plan_in c.args.clock.now g.G.SlipLog.takes in
    let zero : c.args.slot ≡ 0 = (let h = c.if-slot-gt0.false in omega arith) in
    let ms : List Meaning = map (meaning_in g.C.Tx) c.args.self.now.list.items in
    IfErr-weaker c.begin_frame.result _ _
    (λ stop blocked.
    let P : ℕ → Type 0 = λ t. Blocked ms plan (taken_to s c.args.path plan c.args.frame t) (came_to s c.args.path plan c.args.frame t 0)
    (λ size. beginning s c.args.path plan ms size c.args.frame t) stop (g.F.Feed.inputs c.args.feed.now) (g.F.Feed.inputs c.begin_frame.new.feed) (g.F.Feed.feed_faults c.args.feed.now) (g.F.Feed.feed_faults c.begin_frame.new.feed) in
    subst P (sym zero) blocked)
    c.begin_frame.ensures.err

pub returns-then-slot-gt0-clause-told : goal.returns-then-slot-gt0-clause-told
returns-then-slot-gt0-clause-told g c =
    let s : FrameShape = g.S.Shape.shape in
    let plan : Plan = plan_in c.args.clock.now g.G.SlipLog.takes in
    let ms : List Meaning = map (meaning_in g.C.Tx) c.args.self.now.list.items in
    tells_same [] (beginning_slips s plan ms c.args.frame c.args.slot)
    (ap (λ b. cond b (cond (eqb c.args.frame 0) (leads_slips s plan ms) []) []) (ne_eqb c.args.slot 0 (λ z. absurd (omega (arith, z, c.if-slot-gt0.true)))))
    (tells_ok tt (all_none g.G.SlipLog (record { nothing = g.met.G.SlipLog.logged_nothing; joins = g.met.G.SlipLog.logged_join; breaks = g.met.G.SlipLog.broken_join }) c.args.log.now))

pub returns-clause-told : goal.returns-clause-told
returns-clause-told g c =
    let s : FrameShape = g.S.Shape.shape in
    let plan : Plan = plan_in c.args.clock.now g.G.SlipLog.takes in
    let ms : List Meaning = map (meaning_in g.C.Tx) c.args.self.now.list.items in
    let zero : c.args.slot ≡ 0 = (let h = c.if-slot-gt0.false in omega arith) in
    tells_same (beginning_slips s plan ms c.args.frame 0) (beginning_slips s plan ms c.args.frame c.args.slot) (ap (beginning_slips s plan ms c.args.frame) zero) c.begin_frame.ensures.told
