use Rattle.std.proofs.Common.{◌≡◌, refl, ap, sym, ◌∙◌, arith, is_some, below_more}
use Rattle.std.specs.Option.{option_map}
use Rattle.pdh_clock.specs.Begun.{shortage_of}
use Rattle.pdh_chain.proofs.ChainLaws.{leaves-by_levels}
use Rattle.pdh_making.specs.Mux.{bits_needed}
use Rattle.pdh_making.specs.MuxSteps.{IsLong}
use Rattle.pdh_making.proofs.Scheduled.{short_is, needed_here}
use Rattle.pdh_making.proofs.muxing.frames.Goals as goal

pub loop-leaf-init : goal.loop-leaf-init
loop-leaf-init c = λ k h. absurd (omega arith)

pub returns-then-have-need-clause-err : goal.returns-then-have-need-clause-err
returns-then-have-need-clause-err c =
    let rows = c.args.clock.now.rows in
    record {
      leaf = omega (arith, c.leaf_count-leaf-end.ensures.value);
      few = omega (arith, c.frames-frames.ensures);
      scheduled = sym (short_is c.args.chain c.args.clock.now c.frames-frames.result c.requires.levels c.frames-frames.ensures) ∙ sym c.short.ensures.short ∙ ap (option_map shortage_of) c.in_default.is;
      have_is = refl;
      need_is = (needed_here c.args.chain c.args.clock.now c.frames-frames.result c.loop-leaf.leaf c.from.result c.entered-need.result c.requires.levels c.requires.rows c.frames-frames.ensures (omega arith) c.from.ensures (omega (arith, c.leaf_count-leaf-end.ensures.value)) c.entered-need.ensures).0;
      short = omega arith;
      before = c.loop-leaf.invariant;
    }

pub loop-leaf-preserved : goal.loop-leaf-preserved
loop-leaf-preserved c =
    let rows = c.args.clock.now.rows in
    let need : c.entered-need.result ≡ bits_needed c.args.chain rows c.loop-leaf.leaf = (needed_here c.args.chain c.args.clock.now c.frames-frames.result c.loop-leaf.leaf c.from.result c.entered-need.result c.requires.levels c.requires.rows c.frames-frames.ensures (omega arith) c.from.ensures (omega (arith, c.leaf_count-leaf-end.ensures.value)) c.entered-need.ensures).0 in
    below_more (IsLong c.args.chain rows c.args.sizes.now) c.loop-leaf.leaf c.loop-leaf.invariant (omega arith)

pub returns-clause-ok : goal.returns-clause-ok
returns-clause-ok c = record {
  frames_are = c.frames-frames.ensures;
  few = omega arith;
  scheduled = sym (short_is c.args.chain c.args.clock.now c.frames-frames.result c.requires.levels c.frames-frames.ensures) ∙ sym c.short.ensures.short ∙ ap (option_map shortage_of) c.in_default.is;
  long = λ k h. c.loop-leaf.invariant k (omega (arith, c.leaf_count-leaf-end.ensures.value));
}

pub entered-need-requires-clause-leaf : goal.entered-need-requires-clause-leaf
entered-need-requires-clause-leaf c = omega (arith, leaves-by_levels c.args.chain c.args.clock.now.levels c.requires.levels, c.from.ensures, c.leaf_count-leaf-end.ensures.value)

pub entered-need-requires-clause-enough : goal.entered-need-requires-clause-enough
entered-need-requires-clause-enough c = ap is_some (sym c.short.ensures.short ∙ ap (option_map shortage_of) c.in_default.is)

pub overflow_cast-need : goal.overflow_cast-need
overflow_cast-need c = record { fits = omega (arith, (needed_here c.args.chain c.args.clock.now c.frames-frames.result c.loop-leaf.leaf c.from.result c.entered-need.result c.requires.levels c.requires.rows c.frames-frames.ensures (omega arith) c.from.ensures (omega (arith, c.leaf_count-leaf-end.ensures.value)) c.entered-need.ensures).1) }

pub overflow_add-need : goal.overflow_add-need
overflow_add-need c = record { fits = omega (arith, (needed_here c.args.chain c.args.clock.now c.frames-frames.result c.loop-leaf.leaf c.from.result c.entered-need.result c.requires.levels c.requires.rows c.frames-frames.ensures (omega arith) c.from.ensures (omega (arith, c.leaf_count-leaf-end.ensures.value)) c.entered-need.ensures).1) }

pub overflow_mul-result : goal.overflow_mul-result
overflow_mul-result c = record { fits = omega (arith, (needed_here c.args.chain c.args.clock.now c.frames-frames.result c.loop-leaf.leaf c.from.result c.entered-need.result c.requires.levels c.requires.rows c.frames-frames.ensures (omega arith) c.from.ensures (omega (arith, c.leaf_count-leaf-end.ensures.value)) c.entered-need.ensures).1) }
