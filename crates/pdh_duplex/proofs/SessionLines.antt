-- Each end receives the other's line as its script disturbs it.
use Rattle.std.proofs.Common.{◌≡◌, ℕ, zero, suc, ◌+◌, ◌*◌, ◌<◌, ◌≤◌, Bool, true, false, cond, eqb, List, [], ◌∷◌, ◌++◌, length, refl, ap, sym, ◌∙◌, subst, arith, append_assoc}
use Rattle.std.specs.List.{slice_index_or}
use Rattle.std.proofs.lemmas.Bool.{eq-eqb, ne_eqb}
use Rattle.std.proofs.lemmas.List.{append-nil, length-append, take-append-drop}
use Rattle.std.proofs.Math.Nat.{mul-le-mul_right}
use Rattle.pdh_shape.specs.declared.role.Service.{Service}
use Rattle.pdh_shape.specs.Frame.{FrameShape, idle}
use Rattle.pdh_line.specs.Nodes.{child, Counts}
use Rattle.pdh_line.specs.Sending.{given}
use Rattle.pdh_line.proofs.Ranges.{map-range_same_on}
use Rattle.pdh_line.proofs.SentFrames.{take-front}
use Rattle.pdh_nesting.specs.Chains.{top_len, AreFrames}
use Rattle.pdh_nesting.specs.Events.{NoneEmpty}
use Rattle.pdh_nesting.specs.Sending.{top_begun, content_of}
use Rattle.pdh_nesting.proofs.NoEvents.{none_empty-within}
use Rattle.pdh_nesting.proofs.Nodes.{begun-frames, given-grows}
use Rattle.pdh_nesting.proofs.Unchanged.{line_with-same}
use Rattle.pdh_script.specs.Scripts.{Row, FitIn, disturbed}
use Rattle.pdh_script.specs.Bending.{added_at, all_brought}
use Rattle.pdh_script.proofs.Brought.{brought_then, at_once}
use Rattle.pdh_chain.specs.Chains.{shapes_of}
use Rattle.pdh_chain.proofs.ChainLaws.{are_frames, read_evenly}
use Rattle.pdh_patterns.specs.Leaves.{made_counts, input_of}
use Rattle.pdh_patterns.proofs.MadeWithin.{made_within}
use Rattle.pdh_duplex.specs.Session.{Setting, frame_of, line_upto, disturbed_frame}
use Rattle.pdh_duplex.proofs.FrameLengths.{length-line}
use Rattle.pdh_duplex.proofs.FramesSent.{said_before}

-- ---- lines

empty : (bits : List Bool) → length bits ≡ 0 → bits ≡ []
empty [] none = refl
empty (bit ∷ bits) none = absurd (omega arith)

-- so many whole frames begin no more
begun_upto : (shapes : List FrameShape) (n : ℕ) → AreFrames shapes → top_begun shapes (n * top_len shapes) ≤ n
begun_upto [] n are = omega arith
begun_upto (s ∷ below) n are = omega (arith, begun-frames s n are.0)

-- where no store underflows in making some bits, none does in making fewer
none_fewer : (chain : List FrameShape) (counts : Counts) (path : List ℕ) (x y : ℕ) → AreFrames chain → x ≤ y → NoneEmpty chain counts path y → NoneEmpty chain counts path x
unfolding NoneEmpty
none_fewer [] counts path x y are h none = tt
none_fewer (s ∷ below) counts path x y are h none =
    λ j known. (
      λ stores n t inside less. (none j known).0 stores n t inside (omega (arith, less, h)),
      none_fewer below counts (child path j) (given s j (counts path j) x) (given s j (counts path j) y) are.2 (given-grows s j (counts path j) x y are.0 are.1 known h) (none j known).1,
    )

module _ (z : Setting) where
  abbrev shapes : List FrameShape
  shapes = shapes_of z.chain

  abbrev len : ℕ
  len = top_len shapes

  abbrev counts : Counts
  counts = made_counts z.chain z.frames

  -- no store of them underflows
  none_empties : (n : ℕ) → n ≤ z.frames → NoneEmpty shapes counts [] (n * len)
  none_empties n upto =
      none_fewer shapes counts [] (n * len) (z.frames * len) (are_frames z.chain) (mul-le-mul_right len upto)
      (none_empty-within shapes counts [] (z.frames * len) (are_frames z.chain) (read_evenly z.chain) (made_within z.chain z.frames))

  -- frames that say the same are the same
  lines_agree : (a b : List Service) (n : ℕ) → n ≤ z.frames → ((k : ℕ) → k < n → slice_index_or a k idle ≡ slice_index_or b k idle) → line_upto z a n ≡ line_upto z b n
  lines_agree a b n upto same =
      map-range_same_on _ _ 0 (n * len)
      (λ y from h.
      line_with-same shapes counts (n * len) y (content_of (input_of z.chain z.seed z.frames) (λ k. slice_index_or a k idle)) (content_of (input_of z.chain z.seed z.frames) (λ k. slice_index_or b k idle)) (are_frames z.chain) (none_empties n upto)
      (record { bits = λ leaf i known less. refl; says = λ k less. same k (omega (arith, less, begun_upto shapes n (are_frames z.chain))) }) (omega (arith, h)))

  -- a line with one frame more
  line_next : (says : List Service) (n : ℕ) → line_upto z says (suc n) ≡ line_upto z says n ++ frame_of z says n
  line_next says n =
      sym (ap (λ front. front ++ frame_of z says n) (sym (take-front _ (n * len) (suc n * len) (mul-le-mul_right len (omega arith)))) ∙ take-append-drop (n * len) (line_upto z says (suc n)))

  -- ---- one way

  module _ (rows : List Row) (says : ℕ → List Service) (say : ℕ → Service) (got : ℕ → List Bool) (first : says 0 ≡ []) (none : got 0 ≡ []) (next : (n : ℕ) → says (suc n) ≡ says n ++ say n ∷ [])
      (more : (n : ℕ) → got (suc n) ≡ got n ++ disturbed_frame z rows n (frame_of z (says (suc n)) n)) where
    pub long : (n : ℕ) → length (says n) ≡ n
    long zero = ap length first
    long (suc n) = omega (arith, ap length (next n), length-append (says n) (say n ∷ []), long n)

    kept : (n k : ℕ) → k < n → slice_index_or (says (suc n)) k idle ≡ slice_index_or (says n) k idle
    kept n k less = ap (λ (l : List Service). slice_index_or l k idle) (next n) ∙ said_before (says n) (say n) k (omega (arith, less, long n))

    line_grows : (n : ℕ) → n < z.frames → line_upto z (says (suc n)) (suc n) ≡ line_upto z (says n) n ++ frame_of z (says (suc n)) n
    line_grows n less = line_next (says (suc n)) n ∙ ap (λ front. front ++ frame_of z (says (suc n)) n) (lines_agree (says (suc n)) (says n) n (omega (arith, less)) (λ k h. kept n k h))

    brings : (n : ℕ) → n < z.frames → all_brought 0 rows (line_upto z (says (suc n)) (suc n)) ≡ all_brought 0 rows (line_upto z (says n) n) ++ all_brought (n * len) rows (frame_of z (says (suc n)) n)
    brings n less =
        let place : 0 + length (line_upto z (says n) n) ≡ n * len = omega (arith, length-line z (says n) n) in
        ap (all_brought 0 rows) (line_grows n less) ∙ brought_then 0 rows (line_upto z (says n) n) (frame_of z (says (suc n)) n)
        ∙ ap (λ p. all_brought 0 rows (line_upto z (says n) n) ++ all_brought p rows (frame_of z (says (suc n)) n)) place

    -- before the last frame
    brought : (n : ℕ) → n < z.frames → got n ≡ all_brought 0 rows (line_upto z (says n) n)
    brought zero less =
        let nothing : 0 * len ≡ 0 = omega arith in
        none ∙ ap (all_brought 0 rows) (sym (empty (line_upto z (says 0) 0) (length-line z (says 0) 0 ∙ nothing)))
    brought (suc n) less =
        let frame : List Bool = frame_of z (says (suc n)) n in
        let here : List Bool = all_brought (n * len) rows frame in
        let not_last : eqb (suc n) z.frames ≡ false = ne_eqb (suc n) z.frames (λ same. omega (arith, same, less)) in
        more n ∙ ap (λ b. got n ++ (here ++ cond b (added_at (n * len + length frame) rows) [])) not_last ∙ ap (λ v. got n ++ v) (append-nil here)
        ∙ ap (λ v. v ++ here) (brought n (omega (arith, less))) ∙ sym (brings n (omega (arith, less)))

    -- with what is added behind the last
    all_received : (n : ℕ) → suc n ≡ z.frames → got (suc n) ≡ all_brought 0 rows (line_upto z (says (suc n)) (suc n)) ++ added_at (length (line_upto z (says (suc n)) (suc n))) rows
    all_received n last =
        let frame : List Bool = frame_of z (says (suc n)) n in
        let here : List Bool = all_brought (n * len) rows frame in
        let before : List Bool = all_brought 0 rows (line_upto z (says n) n) in
        let less : n < z.frames = omega (arith, last) in
        let is_last : eqb (suc n) z.frames ≡ true = eq-eqb (suc n) z.frames last in
        let whole : n * len + length frame ≡ length (line_upto z (says (suc n)) (suc n)) = omega (arith, ap length (line_grows n less), length-append (line_upto z (says n) n) frame, length-line z (says n) n) in
        more n ∙ ap (λ b. got n ++ (here ++ cond b (added_at (n * len + length frame) rows) [])) is_last ∙ ap (λ v. v ++ (here ++ added_at (n * len + length frame) rows)) (brought n less)
        ∙ sym (append_assoc before here (added_at (n * len + length frame) rows)) ∙ ap (λ v. v ++ added_at (n * len + length frame) rows) (sym (brings n less))
        ∙ ap (λ p. all_brought 0 rows (line_upto z (says (suc n)) (suc n)) ++ added_at p rows) whole

    pub way_received : (n : ℕ) → n ≡ z.frames → (n ≡ 0 → ⊥) → FitIn (z.frames * len) rows → got n ≡ disturbed (line_upto z (says n) n) rows
    way_received zero last some fit = absurd (some refl)
    way_received (suc n) last some fit =
        let count : z.frames * len ≡ length (line_upto z (says (suc n)) (suc n)) = ap (λ n. n * len) (sym last) ∙ sym (length-line z (says (suc n)) (suc n)) in
        all_received n last ∙ sym (at_once rows (line_upto z (says (suc n)) (suc n)) (subst (λ bits. FitIn bits rows) count fit))
