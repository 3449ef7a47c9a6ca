use Rattle.std.proofs.Common.{◌≡◌, ℕ, ◌/◌, ◌%◌, Some, None, ap, ◌∙◌, sym, arith}
use Rattle.pdh_cbit.specs.Channel.{TellsCode}
use Rattle.pdh_cbit.proofs.Words.{number_of-word_of, code_from_number}
use Rattle.pdh_cbit.proofs.feac.told_code.Goals as goal
use Rattle.pdh_cbit.proofs.feac.told_code.Goals.{else-register-word_of-via-then-register-word_of+then-repeated-ge-TEN_WORDS+else-repeated-lt-ELEVEN_WORDS, else-register-word_of-via-then-register-word_of+else-repeated-ge-TEN_WORDS, else-register-word_of-via-else-register-word_of}

pub returns-then-repeated-lt-ELEVEN_WORDS : goal.returns-then-repeated-lt-ELEVEN_WORDS
returns-then-repeated-lt-ELEVEN_WORDS c code =
    let register = c.args.register in (
      λ (is : Some (register / 2 % 64) ≡ Some code).
          let same : register / 2 % 64 ≡ code = cc in
          record {
            fits = omega (arith, same);
            word = omega (arith, same, number_of-word_of code (omega (arith, same)), c.word_of.ensures.parts);
            ten = omega arith;
            anew = omega arith;
          },
      λ (tells : TellsCode register c.args.repeated code). ap Some (code_from_number register code tells.fits tells.word),
    )

pub returns-else-register-word_of : goal.returns-else-register-word_of
returns-else-register-word_of c code =
    let register = c.args.register in (
      λ (is : None ≡ Some code). absurd (cc),
      λ (tells : TellsCode register c.args.repeated code).
          let same : register / 2 % 64 ≡ code = code_from_number register code tells.fits tells.word in
          let word : register ≡ c.word_of.result = omega (arith, same, number_of-word_of code tells.fits, tells.word, c.word_of.ensures.parts) in
          absurd (elim c.else-register-word_of.branch [
            | else-register-word_of-via-then-register-word_of+then-repeated-ge-TEN_WORDS+else-repeated-lt-ELEVEN_WORDS w ↦ omega (arith, tells.anew)
            | else-register-word_of-via-then-register-word_of+else-repeated-ge-TEN_WORDS w ↦ omega (arith, tells.ten)
            | else-register-word_of-via-else-register-word_of w ↦ omega (arith, word)
          ]),
    )
