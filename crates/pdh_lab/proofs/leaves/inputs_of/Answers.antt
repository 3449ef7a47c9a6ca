use Rattle.std.proofs.Common.{◌≡◌, ◌<◌, ◌∷◌, [], ◌++◌, ap, ◌∙◌, arith}
use Rattle.pdh_bits.specs.BitOut.{BoundedBits}
use Rattle.std.proofs.lemmas.Grind.{common_steps}
use Rattle.pdh_chain.specs.Chains.{leaves_of}
use Rattle.pdh_patterns.specs.Pattern.{pattern}
use Rattle.pdh_patterns.specs.Leaves.{entered_of, input_of}
use Rattle.pdh_lab.proofs.Lists.{each_pushed}
use Rattle.pdh_patterns.proofs.Entered.{entered_answer, entered_few}
use Rattle.pdh_lab.proofs.leaves.inputs_of.Goals as goal

pub overflow_cast-bits : goal.overflow_cast-bits
overflow_cast-bits c =
    let low : c.loop-leaf.leaf < leaves_of c.args.chain = omega (arith, c.leaves-leaf-end.ensures.value) in
    record { fits = omega (arith, c.entered-bits.ensures, entered_answer c.args.chain c.args.frames c.args.clock.now c.requires.clock c.loop-leaf.leaf, entered_few c.args.chain c.args.frames c.args.clock.now c.requires.clock c.loop-leaf.leaf c.requires.few low) }

pub loop-leaf-preserved : goal.loop-leaf-preserved
loop-leaf-preserved c =
    let inv = c.loop-leaf.invariant in
    let leaf = c.loop-leaf.leaf in
    let bits : BoundedBits = c.in_ok-pattern_of.field-0 in
    let pushed : c.push.new.self.items ≡ c.loop-leaf.inputs.items ++ bits ∷ [] = grind (arith, common_steps) in
    let enters : c.entered-bits.result ≡ entered_of c.args.chain c.args.frames leaf = c.entered-bits.ensures ∙ entered_answer c.args.chain c.args.frames c.args.clock.now c.requires.clock leaf in
    record {
      count = grind (arith, common_steps);
      each = each_pushed (λ k v. v.bits ≡ input_of c.args.chain c.args.seed c.args.frames k) c.loop-leaf.inputs.items c.push.new.self.items bits leaf pushed inv.count inv.each
          (c.in_ok-pattern_of.ensures ∙ ap (pattern c.args.seed leaf) enters);
    }
