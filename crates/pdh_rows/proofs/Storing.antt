-- The rows that a table stores.
use Rattle.std.proofs.Common.{◌≡◌, ℕ, zero, suc, ◌+◌, ◌*◌, ◌<◌, ◌≤◌, List, [], ◌∷◌, ◌++◌, length, get_or, take, drop, refl, ap, sym, ◌∙◌, arith, slice_index, suc-mul, zero-mul}
use Rattle.std.proofs.lemmas.List.{get_or-take, get_or-drop, get_or-map, take-append-le, drop-append-le, length-drop, length-take-le, take_all, drop-drop, nil_from_length}
use Rattle.std.proofs.Math.Nat.{add-mul}
use Rattle.pdh_rows.specs.declared.flow.Flow.{Flow}
use Rattle.pdh_rows.specs.declared.flow.Says.{Says}
use Rattle.pdh_rows.specs.declared.flow.Says.TheVariants.{Counts}
use Rattle.pdh_rows.specs.Flows.{flow_in, each}
use Rattle.pdh_rows.specs.Rows.{row_flow}
use Rattle.pdh_rows.specs.Stored.{said_row, stored_rows}
use Rattle.pdh_rows.proofs.Joining.{no_row}

pub length-stored_rows : (tribs : ℕ) (ratio : Flow) (repeats : List ℕ) (says : List Says) (numbers : List ℕ)
    → length (stored_rows tribs ratio repeats says numbers) ≡ length repeats
length-stored_rows tribs ratio [] says numbers = refl
length-stored_rows tribs ratio (repeat ∷ repeats) says numbers = ap suc (length-stored_rows tribs ratio repeats (drop 1 says) (drop tribs numbers))

-- one more row
pub stored_rows_push : (tribs : ℕ) (ratio : Flow) (repeats : List ℕ) (says : List Says) (numbers : List ℕ) (repeat : ℕ) (say : Says) (new : List ℕ)
    → length says ≡ length repeats → length numbers ≡ length repeats * tribs → length new ≡ tribs
    → stored_rows tribs ratio (repeats ++ repeat ∷ []) (says ++ say ∷ []) (numbers ++ new)
    ≡ stored_rows tribs ratio repeats says numbers ++ said_row ratio repeat say new ∷ []
stored_rows_push tribs ratio [] [] numbers repeat say new s e l =
    let none : numbers ≡ [] = nil_from_length numbers (omega arith) in
    ap (λ ns. said_row ratio repeat say (take tribs (ns ++ new)) ∷ []) none
    ∙ ap (λ ns. said_row ratio repeat say ns ∷ []) (take_all tribs new (omega arith))
stored_rows_push tribs ratio [] (other ∷ says) numbers repeat say new s e l = absurd (omega (arith, s))
stored_rows_push tribs ratio (first ∷ repeats) [] numbers repeat say new s e l = absurd (omega (arith, s))
stored_rows_push tribs ratio (first ∷ repeats) (other ∷ says) numbers repeat say new s e l =
    let room : tribs ≤ length numbers = omega (arith, e, suc-mul (length repeats) tribs) in
    let rest : length (drop tribs numbers)
    ≡ length repeats * tribs = omega (arith, e, suc-mul (length repeats) tribs, length-drop tribs numbers) in
    let front = take-append-le tribs numbers new room in
    let back = ap (stored_rows tribs ratio (repeats ++ repeat ∷ []) (says ++ say ∷ [])) (drop-append-le tribs numbers new room)
    ∙ stored_rows_push tribs ratio repeats says (drop tribs numbers) repeat say new (omega (arith, s)) rest l in
    ap (λ ns. said_row ratio first other ns ∷ stored_rows tribs ratio (repeats ++ repeat ∷ []) (says ++ say ∷ [])
    (drop tribs (numbers ++ new))) front
    ∙ ap (λ rows. said_row ratio first other (take tribs numbers) ∷ rows) back

-- the k-th row
pub get_or-stored_rows : (tribs : ℕ) (ratio : Flow) (repeats : List ℕ) (says : List Says) (numbers : List ℕ) (k : ℕ) → k < length repeats
    → get_or (stored_rows tribs ratio repeats says numbers) k no_row
    ≡ said_row ratio (get_or repeats k 0) (get_or says k Counts) (take tribs (drop (k * tribs) numbers))
get_or-stored_rows tribs ratio [] says numbers k h = absurd (omega (arith, h))
get_or-stored_rows tribs ratio (repeat ∷ repeats) says numbers zero h = ap
    (λ n. said_row ratio repeat (get_or says 0 Counts) (take tribs (drop n numbers))) (sym (zero-mul tribs))
get_or-stored_rows tribs ratio (repeat ∷ repeats) says numbers (suc k) h =
    let same : drop (k * tribs) (drop tribs numbers) ≡ drop (suc k * tribs) numbers = drop-drop (k * tribs) tribs numbers
    ∙ ap (λ n. drop n numbers) (omega (arith, suc-mul k tribs)) in
    let next : get_or (drop 1 says) k Counts ≡ get_or says (suc k) Counts = get_or-drop 1 says k Counts ∙ ap (λ n. get_or says n Counts) (omega arith) in
    get_or-stored_rows tribs ratio repeats (drop 1 says) (drop tribs numbers) k (omega arith)
    ∙ ap (λ ns. said_row ratio (get_or repeats k 0) (get_or (drop 1 says) k Counts) (take tribs ns)) same
    ∙ ap (λ s. said_row ratio (get_or repeats k 0) s (take tribs (drop (suc k * tribs) numbers))) next

-- the flow of a tributary in a row, by its number
pub said_flow : (ratio : Flow) (repeat : ℕ) (says : Says) (numbers : List ℕ) (trib : ℕ) → trib < length numbers
    → row_flow (said_row ratio repeat says numbers) trib ≡ flow_in ratio says (slice_index numbers trib)
said_flow ratio repeat says numbers trib h = get_or-map (flow_in ratio says) numbers trib 0 (each 0) h

-- that of the k-th row
pub stored_flow-is : (tribs : ℕ) (ratio : Flow) (repeats : List ℕ) (says : List Says) (numbers : List ℕ) (k trib : ℕ) → k < length repeats → trib < tribs
    → (k + 1) * tribs ≤ length numbers
    → row_flow (get_or (stored_rows tribs ratio repeats says numbers) k no_row) trib
    ≡ flow_in ratio (get_or says k Counts) (slice_index numbers (k * tribs + trib))
stored_flow-is tribs ratio repeats says numbers k trib h l room =
    let left : tribs ≤ length (drop (k * tribs) numbers) = omega (arith, length-drop (k * tribs) numbers, add-mul k 1 tribs, room) in
    let many : length (take tribs (drop (k * tribs) numbers)) ≡ tribs = length-take-le tribs (drop (k * tribs) numbers) left in
    ap (λ row. row_flow row trib) (get_or-stored_rows tribs ratio repeats says numbers k h)
    ∙ said_flow ratio (get_or repeats k 0) (get_or says k Counts) (take tribs (drop (k * tribs) numbers)) trib (omega (arith, many))
    ∙ ap (flow_in ratio (get_or says k Counts)) (get_or-take tribs (drop (k * tribs) numbers) trib 0 l ∙ get_or-drop (k * tribs) numbers trib 0)
