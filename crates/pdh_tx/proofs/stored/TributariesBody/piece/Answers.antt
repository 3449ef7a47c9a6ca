use Rattle.std.proofs.Common.{◌≡◌, ◌+◌, ◌≤◌, ℕ, Bool, List, [], length, map, sym, ◌∙◌, subst, arith}
use Rattle.std.specs.Prelude.{All}
use Rattle.std.proofs.lemmas.List.{length-map}
use Rattle.pdh_bits.specs.BitOut.{BoundedBits}
use Rattle.pdh_packed.specs.Gaining.{gained}
use Rattle.pdh_shape.specs.Frame.{FrameShape}
use Rattle.pdh_runs.specs.Pieces.{rows, Assembled}
use Rattle.pdh_tx.specs.Meaning.{plan_in, Plan, Meaning}
use Rattle.pdh_tx.specs.Tributary.{placed_in, held_in, meaning_in, share_in}
use Rattle.pdh_tx.specs.Node.{IsShare}
use Rattle.pdh_tx.specs.Passing.{made_through, read_through, HoldsBits, HasRows, Passes}
use Rattle.pdh_tx.specs.Tributaries.{meanings, columns, HavePassed}
use Rattle.pdh_tx.proofs.Feeding.{still_fed}
use Rattle.pdh_tx.proofs.Lists.{transfer_one}
use Rattle.pdh_tx.proofs.Telling.{all_join, none_all, none_failed, none_front}
use Rattle.pdh_tx.proofs.Gaining.{on_err_from}
use Rattle.pdh_tx.proofs.PassingAll.{rows_all}
use Rattle.pdh_tx.proofs.PieceSteps.{piece_makes}
use Rattle.pdh_tx.proofs.Begun.{begun_placed, begun_passable, begun_halts, begins_quietly, begin_halts, begin_failed}
use Rattle.pdh_tx.proofs.stored.TributariesBody.piece.Goals as goal

pub pass_all-requires-clause-decided : goal.pass_all-requires-clause-decided
pass_all-requires-clause-decided g c = c.in-Ok.ensures.decided

pub pass_all-requires-clause-fed : goal.pass_all-requires-clause-fed
pass_all-requires-clause-fed g c =
    let ok = c.in-Ok.ensures in
    let fed = still_fed c.args.self.now c.begin.new.self c.args.at.path c.args.clock.now (g.F.Feed.inputs c.args.feed.now) (g.F.Feed.inputs c.begin.new.feed) ok.same (g.met.F.Feed.fed_holds c.args.feed.now c.begin.new.feed ok.fed.fed) c.requires.fed in
    record { lists = fed.lists; node = fed.node; nodes = fed.nodes }

pub pass_all-requires-clause-placed : goal.pass_all-requires-clause-placed
pass_all-requires-clause-placed g c =
    let within : c.args.at.slot + c.args.at.len ≤ g.S.Shape.shape.len = omega (arith, c.requires.piece.inside, g.met.S.Shape.len_is) in
    begun_placed g.met.S.Shape.is_frame g.met.S.Shape.has_tributaries g.met.S.Shape.tribs_is c.args.self.now (plan_in c.args.clock.now g.G.SlipLog.takes) c.args.at within _ _ c.begin.new.self c.in-Ok.ensures.same c.in-Ok.ensures.ok

pub pass_all-requires-clause-clear : goal.pass_all-requires-clause-clear
pass_all-requires-clause-clear g c =
    let within : c.args.at.slot + c.args.at.len ≤ g.S.Shape.shape.len = omega (arith, c.requires.piece.inside, g.met.S.Shape.len_is) in
    begun_passable g.met.S.Shape.is_frame g.met.S.Shape.has_tributaries g.met.S.Shape.tribs_is c.args.self.now (plan_in c.args.clock.now g.G.SlipLog.takes) c.args.at within _ _ c.begin.new.self c.in-Ok.ensures.same c.in-Ok.ensures.ok c.in-Ok.ensures.decided c.requires.clear

pub returns-in_err-pass_all-in-Ok-clause-halts : goal.returns-in_err-pass_all-in-Ok-clause-halts
returns-in_err-pass_all-in-Ok-clause-halts g c =
    let within : c.args.at.slot + c.args.at.len ≤ g.S.Shape.shape.len = omega (arith, c.requires.piece.inside, g.met.S.Shape.len_is) in
    on_err_from c.from_residual.result (begun_halts g.met.S.Shape.is_frame g.met.S.Shape.has_tributaries g.met.S.Shape.tribs_is c.args.self.now (plan_in c.args.clock.now g.G.SlipLog.takes) c.args.at within _ _ c.begin.new.self c.in-Ok.ensures.same c.in-Ok.ensures.ok _ c.in_err-pass_all-in-Ok.ensures.halts)

pub assemble-requires-clause-rows : goal.assemble-requires-clause-rows
assemble-requires-clause-rows g c =
    let new = c.pass_all.new.self in
    let P : List BoundedBits → Type 0 = λ columns. All (λ column. length column.bits ≡ rows g.S.Shape.shape c.args.at.slot c.args.at.len) columns in
    subst P (sym c.deref-in-Ok-2.ensures.value)
    (rows_all g.S.Shape.shape c.args.at.slot c.args.at.len new.scratch.columns.items (subst (λ (k : ℕ). HasRows g.S.Shape.shape c.args.at.slot c.args.at.len (columns new) k) (sym new.room.count) c.in_ok-pass_all-in-Ok.ensures.ok.rows))

pub returns-in_ok-pass_all-in-Ok-clause-made : goal.returns-in_ok-pass_all-in-Ok-clause-made
returns-in_ok-pass_all-in-Ok-clause-made g c =
    let s : FrameShape = g.S.Shape.shape in
    let at = c.args.at in
    let new = c.pass_all.new.self in
    let ok = c.in_ok-pass_all-in-Ok.ensures in
    let bits : List Bool = gained c.args.into.now c.assemble.new.into in
    let ms : List Meaning = meanings c.args.self.now in
    let inputs = g.F.Feed.inputs in
    let ts = c.args.self.now in
    let mid = c.begin.new.self in
    let overhead = c.write_overhead.new.into in
    let plan : Plan = plan_in c.args.clock.now g.G.SlipLog.takes in
    let within : at.slot + at.len ≤ s.len = omega (arith, c.requires.piece.inside, g.met.S.Shape.len_is) in
    let all : g.S.Shape.TRIBS ≡ s.tribs = sym g.met.S.Shape.tribs_is in
    let ms_long : length ms ≡ s.tribs = length-map ts.list.items (meaning_in g.C.Tx) ∙ ts.count ∙ all in
    let decided_new = transfer_one share_in (λ share j. IsShare plan.mode s j (plan.counts at.path j) at.frame share) mid.list.items new.list.items ok.kept.same_shares c.in-Ok.ensures.decided in
    let P : List Meaning → ℕ → Type 0 = λ ms k. Passes (held_in g.C.Tx) at.path ms plan mid.list.items new.list.items (made_through s plan at 0) (made_through s plan at k) (read_through s plan at 0) (read_through s plan at k)
    (inputs c.begin.new.feed) (inputs c.pass_all.new.feed) (λ source. HoldsBits s source at.frame at.slot at.len (columns new) k) in
    let A : List Bool → List BoundedBits → Type 0 = λ overhead lists. Assembled s at.slot at.len overhead (map (λ (column : BoundedBits). column.bits) lists) bits in
    let assembled : A overhead.bits new.scratch.columns.items = subst (λ (overhead : BoundedBits). A overhead.bits new.scratch.columns.items) ok.kept.overhead (subst (A new.scratch.overhead.bits) c.deref-in-Ok-2.ensures.value c.assemble.ensures.assembled) in
    let within : at.slot + at.len ≤ s.len = omega (arith, c.requires.piece.inside, g.met.S.Shape.len_is) in
    let makes = piece_makes (placed_in g.C.Tx) (held_in g.C.Tx) (meaning_in g.C.Tx) share_in s g.met.S.Shape.has_tributaries at.path plan at.frame at.slot (at.slot + at.len) ms ts.list.items mid.list.items new.list.items c.args.say.now c.args.odd at.len overhead.bits bits (columns new) _ _ _ _
    ms_long (mid.count ∙ all) (new.count ∙ all) c.assemble.ensures.grown.count within c.in-Ok.ensures.decided decided_new c.in-Ok.ensures.scheduled c.in-Ok.ensures.bounded c.write_overhead.ensures.bits assembled c.in-Ok.ensures.ok
    (subst (λ (k : ℕ). HavePassed new plan at k) all ok.ok.placed) (subst (P ms) all (subst (λ (ms : List Meaning). P ms g.S.Shape.TRIBS) c.in-Ok.ensures.same ok.ok.passes)) in
    record {
      gives = record {
        given = makes.given;
        takes = makes.takes;
        others = makes.others;
        exact = makes.exact;
        place = record { made = makes.place.made; decided = makes.place.decided; scheduled = makes.place.scheduled; bounded = makes.place.bounded };
        bounded = makes.bounded;
        onward = makes.onward;
      };
      odd_is = c.assemble.ensures.odd;
    }

pub returns-in-Err-clause-halts : goal.returns-in-Err-clause-halts
returns-in-Err-clause-halts g c =
    begin_halts g.met.S.Shape.is_frame g.met.S.Shape.has_tributaries g.met.S.Shape.tribs_is c.args.self.now (plan_in c.args.clock.now g.G.SlipLog.takes) c.args.at (omega (arith, c.requires.piece.inside, g.met.S.Shape.len_is)) _ _ _ _ _ c.in-Err.ensures.err (λ child n k. g.met.C.Tx.grows child _ n k)

pub returns-in-Err-clause-fed : goal.returns-in-Err-clause-fed
returns-in-Err-clause-fed g c = record {
  fed = c.in-Err.ensures.fed.fed;
  cause = begin_failed g.met.S.Shape.is_frame g.met.S.Shape.has_tributaries g.met.S.Shape.tribs_is c.args.self.now (plan_in c.args.clock.now g.G.SlipLog.takes) c.args.at (omega (arith, c.requires.piece.inside, g.met.S.Shape.len_is)) _ _ _ _ _ c.in-Err.ensures.err
      (none_failed (begins_quietly g.met.S.Shape.is_frame g.met.S.Shape.has_tributaries g.met.S.Shape.tribs_is c.args.self.now (plan_in c.args.clock.now g.G.SlipLog.takes) c.args.at (omega (arith, c.requires.piece.inside, g.met.S.Shape.len_is)) _ (g.F.Feed.inputs c.args.feed.now) c.requires.piece.some c.requires.clear) c.in-Err.ensures.told.front) c.requires.piece.some c.requires.clear;
}

pub returns-in-Err-clause-told : goal.returns-in-Err-clause-told
returns-in-Err-clause-told g c =
    none_front _ (begins_quietly g.met.S.Shape.is_frame g.met.S.Shape.has_tributaries g.met.S.Shape.tribs_is c.args.self.now (plan_in c.args.clock.now g.G.SlipLog.takes) c.args.at (omega (arith, c.requires.piece.inside, g.met.S.Shape.len_is)) _ (g.F.Feed.inputs c.args.feed.now) c.requires.piece.some c.requires.clear) c.in-Err.ensures.told.front

pub returns-in_err-pass_all-in-Ok-clause-told : goal.returns-in_err-pass_all-in-Ok-clause-told
returns-in_err-pass_all-in-Ok-clause-told g c =
    all_join g.G.SlipLog (record { nothing = g.met.G.SlipLog.logged_nothing; joins = g.met.G.SlipLog.logged_join; breaks = g.met.G.SlipLog.broken_join }) _ _ _ [] [] (none_all (begins_quietly g.met.S.Shape.is_frame g.met.S.Shape.has_tributaries g.met.S.Shape.tribs_is c.args.self.now (plan_in c.args.clock.now g.G.SlipLog.takes) c.args.at (omega (arith, c.requires.piece.inside, g.met.S.Shape.len_is)) _ (g.F.Feed.inputs c.args.feed.now) c.requires.piece.some c.requires.clear) c.in-Ok.ensures.told.all) c.in_err-pass_all-in-Ok.ensures.told

pub returns-in_ok-pass_all-in-Ok-clause-told : goal.returns-in_ok-pass_all-in-Ok-clause-told
returns-in_ok-pass_all-in-Ok-clause-told g c =
    all_join g.G.SlipLog (record { nothing = g.met.G.SlipLog.logged_nothing; joins = g.met.G.SlipLog.logged_join; breaks = g.met.G.SlipLog.broken_join }) _ _ _ [] [] (none_all (begins_quietly g.met.S.Shape.is_frame g.met.S.Shape.has_tributaries g.met.S.Shape.tribs_is c.args.self.now (plan_in c.args.clock.now g.G.SlipLog.takes) c.args.at (omega (arith, c.requires.piece.inside, g.met.S.Shape.len_is)) _ (g.F.Feed.inputs c.args.feed.now) c.requires.piece.some c.requires.clear) c.in-Ok.ensures.told.all) c.in_ok-pass_all-in-Ok.ensures.told
