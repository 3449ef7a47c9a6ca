-- A list of bits that others were appended to.
use Rattle.std.proofs.Common.{◌≡◌, ℕ, ◌+◌, Bool, List, [], ◌++◌, length, drop, refl, sym, ◌∙◌, ap, append_assoc, arith}
use Rattle.std.proofs.lemmas.List.{append-nil, drop_at, length-append}
use Rattle.std.proofs.Math.Seq.{drop-length}
use Rattle.pdh_bits.specs.BitOut.{BoundedBits}
use Rattle.pdh_packed.specs.Gaining.{gained, IsGrown}

-- it gained them
pub gained_is : (old new : BoundedBits) (bits : List Bool) → new ≡ record old { bits = old.bits ++ bits } → gained old new ≡ bits
gained_is old new bits is =
    ap (λ (list : BoundedBits). drop (length old.bits) list.bits) is ∙ drop_at old.bits bits (length old.bits) refl

pub grown_parts : (old new : BoundedBits) (bits : List Bool) (count : ℕ) → new.capacity ≡ old.capacity → new.bits ≡ old.bits ++ bits → length bits ≡ count → IsGrown old new count × (gained old new ≡ bits)
grown_parts old new bits count room is long =
    let more : gained old new ≡ bits = ap (drop (length old.bits)) is ∙ drop_at old.bits bits (length old.bits) refl in
    (record { capacity = room; bits = is ∙ ap (λ (end : List Bool). old.bits ++ end) (sym more); count = ap length more ∙ long }, more)

pub grown_by : (old new : BoundedBits) (bits : List Bool) (count : ℕ) → new ≡ record old { bits = old.bits ++ bits } → length bits ≡ count → IsGrown old new count
grown_by old new bits count is long =
    (grown_parts old new bits count (ap (λ (list : BoundedBits). list.capacity) is) (ap (λ (list : BoundedBits). list.bits) is) long).0

-- how long it is then
pub grown_long : (old new : BoundedBits) (count : ℕ) → IsGrown old new count → length new.bits ≡ length old.bits + count
grown_long old new count grown = ap length grown.bits ∙ length-append old.bits (gained old new) ∙ ap (λ n. length old.bits + n) grown.count

-- nothing was appended to it
pub gained_none : (list : BoundedBits) → gained list list ≡ []
gained_none list = drop-length list.bits

pub grown_none : (list : BoundedBits) → IsGrown list list 0
grown_none list = grown_by list list [] 0 (ap (λ (bits : List Bool). record { capacity = list.capacity; bits = bits }) (sym (append-nil list.bits))) refl

-- others were appended to it, and then others
module _ (old mid new : BoundedBits) (first then : ℕ) (one : IsGrown old mid first) (two : IsGrown mid new then) where
  both : new.bits ≡ old.bits ++ (gained old mid ++ gained mid new)
  both = two.bits ∙ ap (λ (front : List Bool). front ++ gained mid new) one.bits ∙ append_assoc old.bits (gained old mid) (gained mid new)

  pub gained_then : gained old new ≡ gained old mid ++ gained mid new
  gained_then = ap (drop (length old.bits)) both ∙ drop_at old.bits (gained old mid ++ gained mid new) (length old.bits) refl

  pub grown_then : IsGrown old new (first + then)
  grown_then = record {
    capacity = two.capacity ∙ one.capacity;
    bits = both ∙ ap (λ (end : List Bool). old.bits ++ end) (sym gained_then);
    count = ap length gained_then ∙ length-append (gained old mid) (gained mid new) ∙ omega (arith, one.count, two.count);
  }

-- some were appended to it, and then these
pub grown_more : (old now new : BoundedBits) (more : List Bool) (count : ℕ) → IsGrown old now count → new ≡ record now { bits = now.bits ++ more } → IsGrown old new (count + length more) × (gained old new ≡ gained old now ++ more)
grown_more old now new more count grown is =
    let next : IsGrown now new (length more) = grown_by now new more (length more) is refl in
    (grown_then old now new count (length more) grown next, gained_then old now new count (length more) grown next ∙ ap (λ (end : List Bool). gained old now ++ end) (gained_is now new more is))
