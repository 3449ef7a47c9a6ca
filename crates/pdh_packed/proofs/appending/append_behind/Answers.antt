use Rattle.std.proofs.Common.{◌++◌, Bool, List, refl, sym, ap, ◌∙◌, append-nil, arith}
use Rattle.pdh_packed.specs.Words.{bits_of_words}
use Rattle.pdh_packed.proofs.PackedLaws.{bits_of_words_none}
use Rattle.pdh_packed.proofs.RunLaws.{behind_more}
use Rattle.pdh_packed.proofs.appending.append_behind.Goals as goal

pub loop-word-init : goal.loop-word-init
loop-word-init c =
    let mine : List Bool = bits_of_words c.args.words.now.items ++ c.args.tail.now in
    record { bits = sym (ap (λ (bits : List Bool). mine ++ bits) bits_of_words_none ∙ append-nil mine); count = omega arith; tail = refl; capacity = refl }

pub loop-word-preserved : goal.loop-word-preserved
loop-word-preserved c =
    let i = c.loop-word.word-index in
    let others = c.args.others.now in
    record {
      bits = behind_more c.loop-word.words.items c.push_reserved.new.self.items others (bits_of_words c.args.words.now.items ++ c.args.tail.now) c.loop-word.rest c.fill_whole.new.self i c.fill_whole.result
          c.loop-word-test.true c.loop-word.invariant.bits c.push_reserved.ensures.items c.fill_whole.ensures.bits;
      count = omega (arith, c.loop-word.invariant.count, c.push_reserved.ensures.len, c.push_reserved.new.self.ok, c.loop-word.words.ok);
      tail = omega (arith, c.loop-word.invariant.tail, c.fill_whole.ensures.count);
      capacity = omega (arith, c.loop-word.invariant.capacity, c.push_reserved.ensures.capacity);
    }
