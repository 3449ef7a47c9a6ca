-- Frames of what is held, as bits of the line.
use Rattle.std.proofs.Common.{◌≡◌, ℕ, suc, ◌+◌, ◌-◌, ◌*◌, ◌/◌, ◌<◌, ◌≤◌, Bool, List, [], ◌∷◌, ◌++◌, length, get_or, take, drop, refl, sym, ap, ◌∙◌, arith, length-append, length-drop}
use Rattle.std.specs.Prelude.{flat_map}
use Rattle.std.proofs.lemmas.List.{take-append-le, take-append-drop, take_all, drop-drop, drop_at, drop-take, length-take-le}
use Rattle.std.proofs.lemmas.List.Concat.{flat_map-cons}
use Rattle.std.proofs.Math.Seq.{drop-cons, drop-append-add}
use Rattle.pdh_g706.specs.Frames.{frame_of, frames_of}
use Rattle.pdh_g706.specs.Machine.{payload_from, frames_from}
use Rattle.pdh_g706.proofs.FrameLists.{length_frames, frame_at, frames_grow, frames-drop}

-- the frames of the front of some bits
frames-take : (bits : List Bool) → 4096 ≤ length bits → frames_of (take 4096 bits) ≡ take 16 (frames_of bits)
frames-take bits long =
    let front : List Bool = take 4096 bits in
    let more = frames_grow front (drop 4096 bits) in
    let all : frames_of bits ≡ frames_of front ++ more.0 = ap frames_of (sym (take-append-drop 4096 bits)) ∙ more.1 in
    let size : length front ≡ 4096 = length-take-le 4096 bits long in
    let count : length (frames_of front) ≡ 16 = length_frames front ∙ ap (λ n. n / 256) size in
    sym (ap (take 16) all ∙ take-append-le 16 (frames_of front) more.0 (omega arith) ∙ take_all 16 (frames_of front) (omega arith))

-- the front of the front of a list
take_twice : {X : Type 0} (xs : List X) (m n : ℕ) → m ≤ n → n ≤ length xs → take m (take n xs) ≡ take m xs
take_twice xs m n le within =
    let size : length (take n xs) ≡ n = length-take-le n xs within in
    sym (take-append-le m (take n xs) (drop n xs) (omega arith)) ∙ ap (take m) (take-append-drop n xs)

-- a part of a part of a list
pub part_of_part : {X : Type 0} (xs : List X) (start n place m : ℕ) → start + n ≤ length xs → place + m ≤ n → take m (drop place (take n (drop start xs))) ≡ take m (drop (start + place) xs)
part_of_part xs start n place m inside within =
    let rest : ℕ = n - place in
    let both : n ≡ place + rest = omega arith in
    let left : length (drop place (drop start xs)) ≡ length xs - start - place = length-drop place (drop start xs) ∙ ap (λ i. i - place) (length-drop start xs) in
    ap (λ i. take m (drop place (take i (drop start xs)))) both ∙ ap (take m) (drop-take place rest (drop start xs)) ∙ take_twice (drop place (drop start xs)) m rest (omega arith) (omega arith)
    ∙ ap (take m) (drop-drop place start xs)

-- sixteen of some frames of these bits
pub window : (bits : List Bool) (k n m : ℕ) → 256 * (k + n) ≤ length bits → 16 * m + 16 ≤ n → take 16 (drop (16 * m) (frames_from (frames_of bits) k n)) ≡ frames_of (take 4096 (drop (256 * (k + 16 * m)) bits))
window bits k n m inside within =
    let F : List (List Bool) = frames_of bits in
    let count : length F ≡ length bits / 256 = length_frames bits in
    let long : length (drop (256 * (k + 16 * m)) bits) ≡ length bits - 256 * (k + 16 * m) = length-drop (256 * (k + 16 * m)) bits in
    part_of_part F k n (16 * m) 16 (omega arith) within
    ∙ ap (take 16) (sym (frames-drop bits (k + 16 * m) (omega arith)))
    ∙ sym (frames-take (drop (256 * (k + 16 * m)) bits) (omega arith))

-- the bits that stand behind others, from a place on
pub behind : (front bits : List Bool) (place now : ℕ) → now ≡ length front + place → drop place bits ≡ drop now (front ++ bits)
behind front bits place now is = sym (ap (λ n. drop n (front ++ bits)) is ∙ drop-append-add front bits place)

-- frames give payload
pub gives : (bits : List Bool) (k n : ℕ) → 256 * k + 256 ≤ length bits → 0 < n → 3 ≤ length (payload_from (frames_of bits) k n)
gives bits k n inside some =
    let F : List (List Bool) = frames_of bits in
    let count : length F ≡ length bits / 256 = length_frames bits in
    let first : List Bool = get_or F k [] in
    let rest : List (List Bool) = take (n - 1) (drop (suc k) F) in
    let one : n ≡ suc (n - 1) = omega arith in
    let split : take n (drop k F) ≡ first ∷ rest = ap (λ i. take i (drop k F)) one ∙ ap (take (suc (n - 1))) (drop-cons F k [] (omega arith)) in
    let is : first ≡ frame_of bits k = frame_at bits k (omega arith) in
    let size : length first ≡ 256 = ap length is ∙ length-take-le 256 (drop (256 * k) bits) (omega (arith, length-drop (256 * k) bits)) in
    let all : length (payload_from F k n) ≡ length (drop 8 first) + length (flat_map (drop 8) rest) =
    ap (λ (x : List (List Bool)). length (flat_map (drop 8) x)) split ∙ ap length (flat_map-cons (drop 8) first rest) ∙ length-append (drop 8 first) (flat_map (drop 8) rest) in
    omega (arith, all, length-drop 8 first, size)
