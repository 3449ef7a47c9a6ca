use Rattle.std.proofs.Common.{◌≡◌, ◌+◌, ◌∷◌, ◌==◌, ap, sym, ◌∙◌, arith}
use Rattle.std.specs.Option.{option_copied}
use Rattle.std.specs.List.{before_first}
use Rattle.pdh_row_text.specs.Text.{number_of}
use Rattle.pdh_row_text.specs.Parsed.{left_len, words_left}
use Rattle.pdh_row_text.proofs.Counting.{seen_more}
use Rattle.pdh_row_text.proofs.row.counts_in.Goals as goal

pub loop-rest-preserved : goal.loop-rest-preserved
loop-rest-preserved c =
    let words : words_left (option_copied c.loop-rest.rest)
    ≡ before_first (λ byte. byte == 32) c.in-Some.line.now ∷ words_left (option_copied c.first_number-count.result.1) =
    ap (λ o. words_left (option_copied o)) c.in-Some.is ∙ c.first_number-count.ensures.words in
    let lens : left_len (option_copied c.loop-rest.rest) ≡ 1 + _ = ap (λ o. left_len (option_copied o)) c.in-Some.is in (
      seen_more number_of c.loop-rest.found c.push.new.self _ c.in_ok-count.field-0 _ _
          (rw words at c.loop-rest.invariant.0) (sym c.first_number-count.ensures.value ∙ c.in_ok-count.was) c.push.ensures.numbers,
      omega
          (arith, (rw c.in_ok-count.was at c.first_number-count.ensures.lens)),
    )
