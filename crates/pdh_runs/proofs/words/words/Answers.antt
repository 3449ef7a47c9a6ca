use Rattle.std.proofs.Common.{◌≡◌, ◌<◌, ◌+◌, ◌*◌, ◌++◌, ◌∷◌, [], List, ℕ, length, get_or, sym, ap, ◌∙◌, subst, arith}
use Rattle.std.proofs.lemmas.List.{length_push}
use Rattle.pdh_shape.specs.Payload.{is_payload, payload_before}
use Rattle.pdh_runs.specs.declared.words.WordAt.{WordAt}
use Rattle.pdh_runs.specs.WordTables.{word_size, IsWordAt}
use Rattle.pdh_runs.proofs.Counts.{before_most, before_pass, before_fail}
use Rattle.pdh_runs.proofs.TableLaws.{role_at, roles_long, count_at, counts_long}
use Rattle.pdh_runs.proofs.WordLaws.{some_size, word_more, words_more, words_made}
use Rattle.pdh_runs.proofs.words.words.Goals as goal
use Rattle.pdh_runs.proofs.words.words.Goals.{then-is_payload+then-place-from+in-Some+in_ok-push, else-is_payload, else-is_payload-via-then-is_payload+else-place-from, else-is_payload-via-else-is_payload}

pub bounds-payload-slot : goal.bounds-payload-slot
bounds-payload-slot g c = omega (arith, counts_long g.S.Shape.shape c.args.payload.now c.requires.payload, c.loop-slot-test.true, c.LEN-slot-end.ensures, g.met.S.Shape.len_is)

pub bounds-roles-slot : goal.bounds-roles-slot
bounds-roles-slot g c = omega (arith, roles_long g.S.Shape.shape c.args.roles.now c.requires.roles, c.loop-slot-test.true, c.LEN-slot-end.ensures, g.met.S.Shape.len_is)

pub overflow_mul-from : goal.overflow_mul-from
overflow_mul-from g c =
    let size = c.word_size-size.result in
    let many : c.len.result ≡ length c.loop-slot.words.items = omega (arith, c.len.ensures, c.loop-slot.words.ok.0) in
    let same : c.from.result * c.len.result ≡ size * length c.loop-slot.words.items = ap (λ n. n * c.len.result) c.from.ensures ∙ ap (λ n. size * n) many in
    omega (arith, same, c.loop-slot.invariant.few, before_most (λ slot. is_payload (g.S.Shape.shape.role slot)) c.loop-slot.slot, some_size c.TRIBS.result, c.word_size-size.ensures, c.loop-slot-test.true, c.LEN-slot-end.ensures, g.met.S.Shape.len_is, g.met.S.Shape.is_frame.few_slots)

pub word_from-requires-clause-payload : goal.word_from-requires-clause-payload
word_from-requires-clause-payload g c =
    let s = g.S.Shape.shape in
    let k : ℕ = c.loop-slot.slot in
    let within : k < s.len = omega (arith, c.loop-slot-test.true, c.LEN-slot-end.ensures, g.met.S.Shape.len_is) in
    sym (c.is_payload.ensures ∙ ap is_payload (role_at s c.args.roles.now k _ c.requires.roles within)) ∙ c.if-is_payload.true

pub loop-slot-preserved : goal.loop-slot-preserved
loop-slot-preserved g c =
    let s = g.S.Shape.shape in
    let k : ℕ = c.loop-slot.slot in
    let p : ℕ → _ = λ slot. is_payload (s.role slot) in
    let within : k < s.len = omega (arith, c.loop-slot-test.true, c.LEN-slot-end.ensures, g.met.S.Shape.len_is) in
    let is : c.is_payload.result ≡ p k = c.is_payload.ensures ∙ ap is_payload (role_at s c.args.roles.now k _ c.requires.roles within) in
    let size = c.word_size-size.result in
    let words : List WordAt = c.loop-slot.words.items in
    let place : c.from-place.result ≡ payload_before s k = c.from-place.ensures ∙ count_at s c.args.payload.now k _ c.requires.payload (omega (arith, within)) in
    elim c.if-is_payload.branch [
      | then-is_payload+then-place-from+in-Some+in_ok-push w ↦
          let new : c.if-is_payload.words.items ≡ words ++ w.in-Some.word ∷ [] = ap (λ v. v.items) w.words-is ∙ w.in_ok-push.ensures.items in
          let many : w.len.result ≡ length words = omega (arith, w.len.ensures, c.loop-slot.words.ok.0) in
          let at : payload_before s k ≡ size * length words = sym place ∙ w.if-place-from.true ∙ ap (λ n. n * w.len.result) w.from.ensures ∙ ap (λ n. size * n) many in
          let more : size * length c.if-is_payload.words.items ≡ size * length words + size = ap (λ l. size * length l) new ∙ ap (λ n. size * n) (length_push words w.in-Some.word) ∙ word_more size (length words) in
          let next : payload_before s (k + 1) ≡ payload_before s k + 1 = before_pass p k (sym is ∙ w.if-is_payload.true) in
          record {
            all = omega (arith, next, more, at, some_size c.TRIBS.result, c.word_size-size.ensures);
            few = omega (arith, next, more, at);
            each = words_more s size (payload_before s k) words c.if-is_payload.words.items w.in-Some.word new at w.in-Some.ensures c.loop-slot.invariant.each;
          }
      | else-is_payload w ↦
          let same : c.if-is_payload.words.items ≡ words = ap (λ v. v.items) w.words-is in
          elim w.else-is_payload.branch [
            | else-is_payload-via-then-is_payload+else-place-from w' ↦
                let next : payload_before s (k + 1) ≡ payload_before s k + 1 = before_pass p k (sym is ∙ w'.if-is_payload.true) in
                let many : w'.len.result ≡ length words = omega (arith, w'.len.ensures, c.loop-slot.words.ok.0) in
                let other : w'.from.result * w'.len.result ≡ size * length words = ap (λ n. n * w'.len.result) w'.from.ensures ∙ ap (λ n. size * n) many in
                record {
                  all = omega (arith, next, place, other, w'.if-place-from.false, c.loop-slot.invariant.all, ap (λ l. size * length l) same);
                  few = omega (arith, next, c.loop-slot.invariant.few, ap (λ l. size * length l) same);
                  each = subst (λ l. (index : ℕ) (at : WordAt) → index < length l → IsWordAt s (size * index) size (get_or l index at)) (sym same) c.loop-slot.invariant.each;
                }
            | else-is_payload-via-else-is_payload w' ↦
                let next : payload_before s (k + 1) ≡ payload_before s k = before_fail p k (sym is ∙ w'.if-is_payload.false) in
                record {
                  all = omega (arith, next, c.loop-slot.invariant.all, ap (λ l. size * length l) same);
                  few = omega (arith, next, c.loop-slot.invariant.few, ap (λ l. size * length l) same);
                  each = subst (λ l. (index : ℕ) (at : WordAt) → index < length l → IsWordAt s (size * index) size (get_or l index at)) (sym same) c.loop-slot.invariant.each;
                }
          ]
    ]

pub returns : goal.returns
returns g c =
    let s = g.S.Shape.shape in
    let end : c.loop-slot.slot ≡ s.len = omega (arith, c.loop-slot-test.false, c.loop-slot.auto.slot-end, c.LEN-slot-end.ensures, g.met.S.Shape.len_is) in
    words_made s g.met.S.Shape.in_turn c.word_size-size.result c.loop-slot.slot c.loop-slot.words.items (c.word_size-size.ensures ∙ ap word_size (c.TRIBS.ensures ∙ sym g.met.S.Shape.tribs_is)) end c.loop-slot.invariant.all c.loop-slot.invariant.each
