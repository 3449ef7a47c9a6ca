use Rattle.std.proofs.Common.{slice_index_or, map, take, ◌≡◌, ℕ, suc, ◌+◌, ◌-◌, ◌*◌, ◌<◌, Bool, List, [], ◌∷◌, ◌++◌, length, sym, ap, ◌∙◌, subst, arith}
use Rattle.std.proofs.lemmas.Result.{on_ok_weaker, on_err_weaker}
use Rattle.pdh_bits.specs.BitOut.{BoundedBits}
use Rattle.pdh_align.specs.Aligning.{Held, StandsFor, frame_back}
use Rattle.pdh_ds1.specs.declared.plan.SuperframePlan.{SuperframePlan}
use Rattle.pdh_ds1.specs.Superframe.{in_superframe}
use Rattle.pdh_ds1.proofs.MachineLaws.{payload_of_all, gathered, gathered_all, counted_go, gains, judges_go, delivered_push, ended}
use Rattle.std.proofs.lemmas.List.{take_all}
use Rattle.pdh_line.specs.Tracking.{Piece, track}
use Rattle.pdh_line.specs.Tracking.Piece.{Gap, Delivered}
use Rattle.pdh_ds1.specs.Machine.{Judges}
use Rattle.pdh_ds1.specs.declared.block_counts.BlockCounts.{BlockCounts}
use Rattle.pdh_ds1.proofs.deframer.Deframer.push.Goals as goal

pub loop-done-preserved : goal.loop-done-preserved
loop-done-preserved g c =
    let frames : ℕ = g.P.InSuperframe.PLAN.frames in
    let inv = c.loop-done.invariant in
    let n = c.loop-done.done in
    let ready : List (List Bool) = c.loop-done.self.aligner.ready in
    let inside : n < length ready = omega (arith, inv.ready) in
    let is : length ready - suc (c.ready_after-ready.result - 1 - n) ≡ n = omega (arith, inv.ready) in
    record {
      aligner = inv.aligner;
      superframes = inv.superframes;
      room = ap (λ (p : BoundedBits). p.capacity) c.gather.ensures.superframe;
      payload = gathered frames ready n (c.ready_after-ready.result - 1 - n) (576 * frames) c.loop-done.self.payload c.gather.new.payload inside is inv.payload c.gather.ensures.payload;
      long = omega (arith, c.gather.ensures.long, inv.long);
      ready = inv.ready;
      few = inv.few;
      blocks = λ extended pieces judges.
          let before : List Piece = pieces ++ map Delivered (take n ready) in
          let frame : List Bool = frame_back ready (c.ready_after-ready.result - 1 - n) in
          let one : Judges c.judge.new.blocks (before ++ Delivered c.gather.new.superframe.bits ∷ []) = c.judge.ensures extended before (inv.blocks extended pieces judges) in
          let is_frame : c.gather.new.superframe.bits ≡ slice_index_or ready n [] = ap (λ (p : BoundedBits). p.bits) c.gather.ensures.superframe ∙ ap (λ k. slice_index_or ready k []) is in
          let joined : before ++ Delivered c.gather.new.superframe.bits ∷ [] ≡ pieces ++ map Delivered (take (n + 1) ready) =
          ap (λ (x : List Bool). before ++ Delivered x ∷ []) is_frame ∙ delivered_push pieces ready n inside in
          subst (Judges c.judge.new.blocks) joined one;
    }

pub returns-clause-taken : goal.returns-clause-taken
returns-clause-taken g c =
    let f_bits = g.P.InSuperframe.f_bits in
    let plan : SuperframePlan = g.P.InSuperframe.PLAN in
    let inv = c.loop-done.invariant in
    let filled : c.loop-done.self.payload.bits ≡ payload_of_all plan.frames c.push-step.new.self.ready =
    gathered_all plan.frames c.loop-done.self.aligner.ready c.loop-done.done (576 * plan.frames) c.loop-done.self.payload (omega (arith, inv.ready)) inv.payload
    ∙ ap (λ (a : Held). payload_of_all plan.frames a.ready) inv.aligner in
    on_ok_weaker c.put_all.result (λ p. record {
      stands = λ line stands.
          let tracks = c.push-step.ensures.tracks line stands.aligner_is in
          let after : List Bool = line ++ c.args.bit ∷ [] in
          record {
            aligner_is = subst (λ (a : Held). StandsFor (in_superframe f_bits plan) a after) (sym inv.aligner) tracks.stands;
            superframe_room = inv.room;
            payload_room = ap (λ (p : BoundedBits). p.capacity) inv.payload;
            superframes_are = inv.superframes ∙ c.superframes_after-self.ensures ∙ counted_go f_bits plan c.push-step.result c.push-step.new.self.ready line after c.args.self.now.superframes stands.superframes_are tracks.grows;
            judges = λ extended.
                let ready : List (List Bool) = c.push-step.new.self.ready in
                let all : take c.loop-done.done c.loop-done.self.aligner.ready ≡ ready =
                take_all c.loop-done.done c.loop-done.self.aligner.ready (omega (arith, inv.ready)) ∙ ap (λ (a : Held). a.ready) inv.aligner in
                let takes : (pieces : List Piece) → Judges c.settle.new.blocks pieces → Judges c.loop-done.self.blocks (pieces ++ map Delivered ready) =
                λ pieces judges. subst (λ (r : List (List Bool)). Judges c.loop-done.self.blocks (pieces ++ map Delivered r)) all (inv.blocks extended pieces judges) in
                judges_go c.args.self.now.blocks c.loop-done.self.blocks c.push-step.result ready (track (in_superframe f_bits plan) line) (track (in_superframe f_bits plan) after) tracks.grows (stands.judges extended)
                (λ pieces judges other. takes pieces (subst (λ (b : BlockCounts). Judges b pieces) (sym (c.settle.ensures.other other)) judges))
                (λ n lost none. subst (Judges c.loop-done.self.blocks) (ended (track (in_superframe f_bits plan) line) n ready none) (takes (track (in_superframe f_bits plan) line ++ Gap n ∷ []) (c.settle.ensures.lost lost (track (in_superframe f_bits plan) line) n (stands.judges extended))));
          };
      gains = λ line stands. record {
        more = c.loop-done.self.payload.bits;
        gained = gains f_bits plan c.args.self.now.aligner c.push-step.new.self c.push-step.result c.args.bit line c.loop-done.self.payload.bits g.met.P.InSuperframe.is_plan (c.push-step.ensures.tracks line stands.aligner_is) filled;
        puts = p;
      };
    }) c.put_all.ensures.ok

pub returns-clause-part : goal.returns-clause-part
returns-clause-part g c =
    let f_bits = g.P.InSuperframe.f_bits in
    let plan : SuperframePlan = g.P.InSuperframe.PLAN in
    let inv = c.loop-done.invariant in
    let filled : c.loop-done.self.payload.bits ≡ payload_of_all plan.frames c.push-step.new.self.ready =
    gathered_all plan.frames c.loop-done.self.aligner.ready c.loop-done.done (576 * plan.frames) c.loop-done.self.payload (omega (arith, inv.ready)) inv.payload
    ∙ ap (λ (a : Held). payload_of_all plan.frames a.ready) inv.aligner in
    on_err_weaker c.put_all.result (λ p. record {
      gains = λ line stands. record {
        more = c.loop-done.self.payload.bits;
        gained = gains f_bits plan c.args.self.now.aligner c.push-step.new.self c.push-step.result c.args.bit line c.loop-done.self.payload.bits g.met.P.InSuperframe.is_plan (c.push-step.ensures.tracks line stands.aligner_is) filled;
        puts = p;
      };
    }) c.put_all.ensures.err
