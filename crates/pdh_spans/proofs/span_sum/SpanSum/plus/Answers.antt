use Rattle.std.proofs.Common.{◌≡◌, ◌+◌, ◌++◌, ◌∷◌, [], length, ap, sym, ◌∙◌, arith}
use Rattle.std.specs.Prelude.{max, sum_by, fold}
use Rattle.std.proofs.lemmas.List.{length_push}
use Rattle.std.proofs.lemmas.List.Sums.{sum_by_push, fold_push}
use Rattle.pdh_spans.specs.declared.span_sum.SpanSum.{SpanSum}
use Rattle.pdh_spans.specs.Times.{Span}
use Rattle.pdh_spans.specs.Sums.{span_length}
use Rattle.pdh_spans.proofs.span_sum.SpanSum.plus.Goals as goal

pub returns : goal.returns
returns c spans is fits =
    let span : Span = record { from = c.args.from; to = c.args.to } in
    let n : c.saturating_sub-length.result ≡ span_length span = omega (arith, c.saturating_sub-length.ensures) in
    let more : length (spans ++ span ∷ []) ≡ length spans + 1 = length_push spans span in
    let all : sum_by span_length (spans ++ span ∷ []) ≡ sum_by span_length spans + span_length span = sum_by_push span_length spans span in
    let most : fold (λ longest span. max longest (span_length span)) 0 (spans ++ span ∷ []) ≡ max (fold (λ longest span. max longest (span_length span)) 0 spans) (span_length span) =
    fold_push (λ longest span. max longest (span_length span)) 0 spans span in
    let had_count : c.args.self.count ≡ length spans = ap (λ (s : SpanSum). s.count) is in
    let had_bits : c.args.self.bits ≡ sum_by span_length spans = ap (λ (s : SpanSum). s.bits) is in
    let had_longest : c.args.self.longest ≡ fold (λ longest span. max longest (span_length span)) 0 spans = ap (λ (s : SpanSum). s.longest) is in
    let count : c.saturating_add-count.result ≡ length (spans ++ span ∷ []) = omega (arith, c.saturating_add-count.ensures, had_count, more, fits.count) in
    let bits : c.saturating_add-bits.result ≡ sum_by span_length (spans ++ span ∷ []) = omega (arith, c.saturating_add-bits.ensures, had_bits, all, n, fits.bits) in
    let longest : c.max-longest.result ≡ fold (λ longest span. max longest (span_length span)) 0 (spans ++ span ∷ []) =
    c.max-longest.ensures ∙ ap (λ a. max a c.saturating_sub-length.result) had_longest
    ∙ ap (λ a. max (fold (λ longest span. max longest (span_length span)) 0 spans) a) n ∙ sym most in
    λ i. record { count = count i; bits = bits i; longest = longest i }
