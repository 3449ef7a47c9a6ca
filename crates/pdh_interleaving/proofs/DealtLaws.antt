-- Lists that bits are dealt out to.
use Rattle.std.proofs.Common.{◌≡◌, ℕ, zero, suc, ◌+◌, ◌-◌, ◌*◌, ◌<◌, ◌≤◌, Bool, false, List, [], ◌∷◌, ◌++◌, length, map, take, drop, set, get_or, append_assoc, All, refl, sym, ◌∙◌, ap, arith, length-append, length-take}
use Rattle.std.proofs.lemmas.List.{append-nil, drop_more, take_more, set_at, get_or-append_right, get_or-drop, get_or-map, take_all, drop_all}
use Rattle.std.proofs.lemmas.List.Elements.{All-nil, All-cons, All-head, All-tail}
use Rattle.pdh_bits.specs.BitOut.{BoundedBits}
use Rattle.pdh_packed.specs.Words.{bounded}
use Rattle.pdh_interleaving.specs.Interleaving.{column, appended_to_each, dealt}
use Rattle.pdh_interleaving.proofs.TurnLaws.{length-column, get_or-column, more_column}

pub length-appended_to_each : (more : ℕ → List Bool) (j : ℕ) (lists : List BoundedBits) → length (appended_to_each more j lists) ≡ length lists
length-appended_to_each more j [] = refl
length-appended_to_each more j (list ∷ lists) = ap suc (length-appended_to_each more (suc j) lists)

-- what one of them has
pub get_or-appended_to_each : (more : ℕ → List Bool) (j : ℕ) (lists : List BoundedBits) (i : ℕ) (d : BoundedBits) → i < length lists
    → get_or (appended_to_each more j lists) i d ≡ bounded (get_or lists i d).capacity ((get_or lists i d).bits ++ more (i + j))
get_or-appended_to_each more j [] i d within = absurd (omega arith)
get_or-appended_to_each more j (list ∷ lists) zero d within = ap (λ (k : ℕ). bounded list.capacity (list.bits ++ more k)) (omega arith)
get_or-appended_to_each more j (list ∷ lists) (suc i) d within =
    get_or-appended_to_each more (suc j) lists i d (omega arith)
    ∙ ap (λ (k : ℕ). bounded (get_or lists i d).capacity ((get_or lists i d).bits ++ more k)) (omega arith)

-- bits and then others
appended_twice : (f g h : ℕ → List Bool) (j : ℕ) (lists : List BoundedBits) → ((k : ℕ) → k < j + length lists → h k ≡ f k ++ g k) → appended_to_each g j (appended_to_each f j lists) ≡ appended_to_each h j lists
appended_twice f g h j [] both = refl
appended_twice f g h j (list ∷ lists) both =
    let first : bounded list.capacity ((list.bits ++ f j) ++ g j) ≡ bounded list.capacity (list.bits ++ h j) =
    ap (bounded list.capacity) (append_assoc list.bits (f j) (g j) ∙ ap (λ (bits : List Bool). list.bits ++ bits) (sym (both j (omega arith)))) in
    let rest = appended_twice f g h (suc j) lists (λ k within. both k (omega arith)) in
    cc

appended_none : (f : ℕ → List Bool) (j : ℕ) (lists : List BoundedBits) → ((k : ℕ) → f k ≡ []) → appended_to_each f j lists ≡ lists
appended_none f j [] none = refl
appended_none f j (list ∷ lists) none =
    let first : bounded list.capacity (list.bits ++ f j) ≡ list = ap (λ (bits : List Bool). bounded list.capacity (list.bits ++ bits)) (none j) ∙ ap (bounded list.capacity) (append-nil list.bits) in
    let rest : appended_to_each f (suc j) lists ≡ lists = appended_none f (suc j) lists none in
    cc

-- lists that get the same bits
pub appended_same : (f g : ℕ → List Bool) (j : ℕ) (lists : List BoundedBits) → ((k : ℕ) → k < j + length lists → f k ≡ g k) → appended_to_each f j lists ≡ appended_to_each g j lists
appended_same f g j [] same = refl
appended_same f g j (list ∷ lists) same =
    let first : bounded list.capacity (list.bits ++ f j) ≡ bounded list.capacity (list.bits ++ g j) = ap (λ (bits : List Bool). bounded list.capacity (list.bits ++ bits)) (same j (omega arith)) in
    let rest = appended_same f g (suc j) lists (λ k within. same k (omega arith)) in
    cc

pub dealt_is : (n : ℕ) (line : List Bool) (lists : List BoundedBits) → dealt n line lists ≡ appended_to_each (column (length lists) n line) 0 lists
unfolding dealt
dealt_is n line lists = refl

pub length-dealt : (n : ℕ) (line : List Bool) (lists : List BoundedBits) → length (dealt n line lists) ≡ length lists
length-dealt n line lists = ap length (dealt_is n line lists) ∙ length-appended_to_each (column (length lists) n line) 0 lists

pub dealt_none : (line : List Bool) (lists : List BoundedBits) → dealt 0 line lists ≡ lists
dealt_none line lists = dealt_is 0 line lists ∙ appended_none (column (length lists) 0 line) 0 lists (λ k. refl)

-- bits are dealt out after others
pub dealt_more : (n m : ℕ) (line : List Bool) (lists : List BoundedBits) → dealt m (drop (n * length lists) line) (dealt n line lists) ≡ dealt (n + m) line lists
dealt_more n m line lists =
    let t : ℕ = length lists in
    let rest : List Bool = drop (n * t) line in
    let many : length (dealt n line lists) ≡ t = length-dealt n line lists in
    dealt_is m rest (dealt n line lists) ∙ ap (λ (k : ℕ). appended_to_each (column k m rest) 0 (dealt n line lists)) many
    ∙ ap (appended_to_each (column t m rest) 0) (dealt_is n line lists)
    ∙ appended_twice (column t n line) (column t m rest) (column t (n + m) line) 0 lists (λ j within. more_column t n m line j) ∙ sym (dealt_is (n + m) line lists)

room_left_in_each : (more : ℕ → List Bool) (n m : ℕ) → ((j : ℕ) → length (more j) ≡ n) → (j : ℕ) (lists : List BoundedBits) → All (λ list. length list.bits + (n + m) ≤ list.capacity) lists → All (λ list. length list.bits + m ≤ list.capacity) (appended_to_each more j lists)
room_left_in_each more n m long j [] room = All-nil (λ list. length list.bits + m ≤ list.capacity)
room_left_in_each more n m long j (list ∷ lists) room =
    let first = All-head (λ b. length b.bits + (n + m) ≤ b.capacity) list lists room in
    let rest = All-tail (λ b. length b.bits + (n + m) ≤ b.capacity) list lists room in
    All-cons (λ b. length b.bits + m ≤ b.capacity) (bounded list.capacity (list.bits ++ more j)) (appended_to_each more (suc j) lists)
    (omega (arith, first, length-append list.bits (more j), long j)) (room_left_in_each more n m long (suc j) lists rest)

-- the room that is left after some
pub room_after_dealt : (n m : ℕ) (line : List Bool) (lists : List BoundedBits) → All (λ list. length list.bits + (n + m) ≤ list.capacity) lists → All (λ list. length list.bits + m ≤ list.capacity) (dealt n line lists)
unfolding dealt
room_after_dealt n m line lists room = room_left_in_each (column (length lists) n line) n m (length-column (length lists) n line) 0 lists room

-- one more list written over what is left of the old ones
pub one_written : (new old : List BoundedBits) (i : ℕ) (d : BoundedBits) → i < length new → i < length old → set (take i new ++ drop i old) i (get_or new i d) ≡ take (i + 1) new ++ drop (i + 1) old
one_written new old i d more room =
    let list : BoundedBits = get_or new i d in
    let before : drop i old ≡ get_or old i d ∷ drop (i + 1) old = drop_more old i d room in
    let after : take (i + 1) new ≡ take i new ++ list ∷ [] = take_more new i d more in
    let put : set (take i new ++ get_or old i d ∷ drop (i + 1) old) i list ≡ take i new ++ list ∷ drop (i + 1) old =
    set_at (take i new) (get_or old i d) (drop (i + 1) old) list i (omega (arith, length-take i new)) in
    rw (before, after, append_assoc) put

-- what is left of the old ones is as it was
pub not_yet_written : (new old : List BoundedBits) (i : ℕ) (d : BoundedBits) → i ≤ length new → get_or (take i new ++ drop i old) i d ≡ get_or old i d
not_yet_written new old i d within =
    let long : length (take i new) ≡ i = omega (arith, length-take i new) in
    let place : i + (i - i) ≡ i = omega arith in
    get_or-append_right (take i new) (drop i old) i i d long (omega arith) ∙ get_or-drop i old (i - i) d ∙ ap (λ (k : ℕ). get_or old k d) place

pub all_written : (new old : List BoundedBits) (i : ℕ) → length new ≤ i → length old ≤ i → take i new ++ drop i old ≡ new
all_written new old i all rest =
    ap (λ (lists : List BoundedBits). lists ++ drop i old) (take_all i new all) ∙ ap (λ (lists : List BoundedBits). new ++ lists) (drop_all i old rest) ∙ append-nil new

-- the bit that a list has got that had none
pub get_or-dealt : (count : ℕ) (line : List Bool) (lists : List BoundedBits) (i j : ℕ) → ((k : ℕ) → get_or (map (λ (t : BoundedBits). t.bits) lists) k [] ≡ []) → i < count → j < length lists
    → get_or (get_or (map (λ (t : BoundedBits). t.bits) (dealt count line lists)) j []) i false ≡ get_or line (i * length lists + j) false
get_or-dealt count line lists i j none among within =
    let bits : BoundedBits → List Bool = λ (t : BoundedBits). t.bits in
    let empty : BoundedBits = bounded 0 [] in
    let more : ℕ → List Bool = column (length lists) count line in
    let long : length (dealt count line lists) ≡ length lists = length-dealt count line lists in
    let one : (get_or (dealt count line lists) j empty).bits ≡ (get_or lists j empty).bits ++ more (j + 0) =
    ap (λ (ts : List BoundedBits). (get_or ts j empty).bits) (dealt_is count line lists) ∙ ap bits (get_or-appended_to_each more 0 lists j empty within) in
    let old : (get_or lists j empty).bits ≡ [] = sym (get_or-map bits lists j empty [] within) ∙ none j in
    let has : get_or (map bits (dealt count line lists)) j [] ≡ more (j + 0) =
    get_or-map bits (dealt count line lists) j empty [] (omega (arith, within, long)) ∙ one ∙ ap (λ (front : List Bool). front ++ more (j + 0)) old in
    ap (λ (list : List Bool). get_or list i false) has ∙ get_or-column (length lists) count line (j + 0) i false among
    ∙ ap (λ (place : ℕ). get_or line place false) (omega arith)
