-- The runs of the slots before a slot, and those with one slot more.
use Rattle.std.proofs.Common.{◌≡◌, ℕ, ◌+◌, ◌<◌, ◌≤◌, Bool, true, false, cond, List, [], ◌∷◌, ◌++◌, map, refl, sym, ap, ◌∙◌, subst, arith, append_assoc, add-one}
use Rattle.std.specs.Prelude.{replicate}
use Rattle.std.specs.List.{range_with_len, flat_map}
use Rattle.std.proofs.lemmas.List.{flat_map_more, replicate_more, map_push}
use Rattle.pdh_shape.specs.Frame.{FrameShape}
use Rattle.pdh_shape.specs.Payload.{is_payload}
use Rattle.pdh_line.proofs.Ranges.{range_push}
use Rattle.pdh_runs.specs.declared.run.Run.{Run}
use Rattle.pdh_runs.specs.Runs.{run_classes, AreMaximal}

-- the classes of the slots before slot k
abbrev pub classes_before : FrameShape → ℕ → List Bool
classes_before s k = map (λ slot. is_payload (s.role slot)) (range_with_len 0 k)

-- the runs of these slots are some, and then this one
pub record RunsBefore (s : FrameShape) (k : ℕ) (runs : List Run) (run : Run) : Type 0 where
  pub written : flat_map run_classes (runs ++ run ∷ []) ≡ classes_before s k
  pub maximal : AreMaximal (runs ++ run ∷ [])
  pub overhead : run.overhead ≤ k
  pub payload : run.payload ≤ k

classes_push : (s : FrameShape) (k : ℕ) → classes_before s (k + 1) ≡ classes_before s k ++ is_payload (s.role k) ∷ []
classes_push s k =
    let class : ℕ → Bool = λ slot. is_payload (s.role slot) in
    let last : 0 + k ≡ k = omega arith in
    ap (classes_before s) (add-one k) ∙ ap (map class) (range_push 0 k) ∙ map_push class (range_with_len 0 k) (0 + k) ∙ ap (λ n. classes_before s k ++ class n ∷ []) last

run_longer : (o p o' p' : ℕ) (b : Bool) → (b ≡ false → p ≡ 0) → o' ≡ o + cond b 0 1 → p' ≡ p + cond b 1 0 → replicate o' false ++ replicate p' true ≡ (replicate o false ++ replicate p true) ++ b ∷ []
run_longer o p o' p' true none eo ep =
    let same : o' ≡ o = omega (arith, eo) in
    ap (λ n. replicate n false ++ replicate p' true) same ∙ ap (λ n. replicate o false ++ replicate n true) ep
    ∙ ap (λ l. replicate o false ++ l) (sym (replicate_more p true)) ∙ sym (append_assoc (replicate o false) (replicate p true) (true ∷ []))
run_longer o p o' p' false none eo ep =
    let before : p ≡ 0 = none refl in
    let now : p' ≡ 0 = omega (arith, ep, before) in
    ap (λ n. replicate n false ++ replicate p' true) eo ∙ ap (λ n. replicate (o + 1) false ++ replicate n true) now
    ∙ nothing (replicate (o + 1) false) ∙ sym (replicate_more o false) ∙ ap (λ l. l ++ false ∷ []) (sym (nothing (replicate o false)))
    ∙ ap (λ n. (replicate o false ++ replicate n true) ++ false ∷ []) (sym before)
  where
    nothing : (l : List Bool) → l ++ [] ≡ l
    nothing [] = refl
    nothing (x ∷ l) = ap (λ l. x ∷ l) (nothing l)

maximal_longer : (runs : List Run) (run next : Run) → run.overhead ≤ next.overhead → AreMaximal (runs ++ run ∷ []) → AreMaximal (runs ++ next ∷ [])
maximal_longer [] run next more is = tt
maximal_longer (x ∷ []) run next more is = (is.0, (omega (arith, more, is.1.0), tt))
maximal_longer (x ∷ y ∷ runs) run next more is = (is.0, (is.1.0, maximal_longer (y ∷ runs) run next more is.1.1))

maximal_begun : (runs : List Run) (run next : Run) → 0 < run.payload → 0 < next.overhead → AreMaximal (runs ++ run ∷ []) → AreMaximal ((runs ++ run ∷ []) ++ next ∷ [])
maximal_begun [] run next some more is = (some, (more, tt))
maximal_begun (x ∷ []) run next some more is = (is.0, (is.1.0, (some, (more, tt))))
maximal_begun (x ∷ y ∷ runs) run next some more is = (is.0, (is.1.0, maximal_begun (y ∷ runs) run next some more is.1.1))

-- no slots
pub none_before : (s : FrameShape) (run : Run) → run ≡ record { overhead = 0; payload = 0 } → RunsBefore s 0 [] run
none_before s run none = subst (RunsBefore s 0 []) (sym none) (record { written = refl; maximal = tt; overhead = omega arith; payload = omega arith })

-- slot k makes the last run longer
pub longer : (s : FrameShape) (k : ℕ) (runs now : List Run) (run next : Run) (b : Bool) → now ≡ runs → b ≡ is_payload (s.role k) → (b ≡ false → run.payload ≡ 0) → next.overhead ≡ run.overhead + cond b 0 1 → next.payload ≡ run.payload + cond b 1 0
    → RunsBefore s k runs run → RunsBefore s (k + 1) now next
longer s k runs now run next b same is none eo ep before = subst (λ l. RunsBefore s (k + 1) l next) (sym same) (record {
  written = sym (flat_map_more run_classes [] runs next) ∙ ap (λ l. flat_map run_classes runs ++ l) (run_longer run.overhead run.payload next.overhead next.payload b none eo ep)
      ∙ sym (append_assoc (flat_map run_classes runs) (run_classes run) (b ∷ [])) ∙ ap (λ l. l ++ b ∷ []) (flat_map_more run_classes [] runs run ∙ before.written)
      ∙ ap (λ c. classes_before s k ++ c ∷ []) is ∙ sym (classes_push s k);
  maximal = maximal_longer runs run next (omega (arith, eo)) before.maximal;
  overhead = omega (arith, eo, overhead_most b, before.overhead);
  payload = omega (arith, ep, payload_most b, before.payload);
})
  where
    overhead_most : (b : Bool) → cond b 0 1 ≤ 1
    overhead_most true = omega arith
    overhead_most false = omega arith

    payload_most : (b : Bool) → cond b 1 0 ≤ 1
    payload_most true = omega arith
    payload_most false = omega arith

-- slot k, an overhead slot behind payload slots, begins a run
pub begun : (s : FrameShape) (k : ℕ) (runs now : List Run) (run next : Run) (b : Bool) → now ≡ runs ++ run ∷ [] → b ≡ is_payload (s.role k) → b ≡ false → 0 < run.payload → next ≡ record { overhead = 1; payload = 0 }
    → RunsBefore s k runs run → RunsBefore s (k + 1) now next
begun s k runs now run next b same is overhead some one before = subst (λ l. RunsBefore s (k + 1) l next) (sym same) (subst (RunsBefore s (k + 1) (runs ++ run ∷ [])) (sym one) (record {
  written = sym (flat_map_more run_classes [] (runs ++ run ∷ []) (record { overhead = 1; payload = 0 })) ∙ ap (λ l. l ++ false ∷ []) before.written
      ∙ ap (λ c. classes_before s k ++ c ∷ []) (sym overhead ∙ is) ∙ sym (classes_push s k);
  maximal = maximal_begun runs run (record { overhead = 1; payload = 0 }) some (omega arith) before.maximal;
  overhead = omega arith;
  payload = omega arith;
}))
