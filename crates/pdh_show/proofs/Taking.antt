-- Bits of a line that are taken, one piece after another.
use Rattle.std.proofs.Common.{◌≡◌, ℕ, ◌+◌, ◌*◌, Bool, List, ◌++◌, length, sym, ap, ◌∙◌, arith, Result, Ok, Err, OnOk}
use Rattle.std.proofs.lemmas.List.{length-append, length-drop, drop_at}
use Rattle.std.proofs.Math.Nat.{suc-mul}
use Rattle.pdh_edge.specs.Ports.{Inputs, Takes, for_leaf}
use Rattle.pdh_show.specs.Showing.{TakesSome, TakesFrame}
use Rattle.pdh_chain.proofs.Lists.{takes_line}

-- some bits, and then others
pub some_more : (n count : ℕ) (bits : List Bool) (x y z : Inputs) → length bits ≡ count → TakesSome n x y → Takes (for_leaf 0 bits) y z → TakesSome (n + count) x z
some_more n count bits x y z long before takes = record {
  given = before.given ++ bits;
  count_is = omega (arith, length-append before.given bits, before.count_is, long);
  takes = takes_line before.given bits x y z before.takes takes;
}

-- whole frames, and then one more
pub then_frame : (len number : ℕ) (frame : List Bool) (x y z : Inputs) → TakesSome (number * len) x y → Takes (for_leaf 0 frame) y z → length frame ≡ len → TakesFrame len number frame x z
then_frame len number frame x y z before takes whole =
    record {
      given = before.given ++ frame;
      count = omega (arith, length-append before.given frame, before.count_is, whole, suc-mul number len);
      takes = takes_line before.given frame x y z before.takes takes;
      frame_is = sym (drop_at before.given frame (number * len) before.count_is);
    }

-- a frame that was taken has its length
pub frame_len : (len number : ℕ) (frame : List Bool) (x y : Inputs) → TakesFrame len number frame x y → length frame ≡ len
frame_len len number frame x y takes = ap length takes.frame_is ∙ omega (arith, length-drop (number * len) takes.given, takes.count, suc-mul number len)

-- what follows of two facts of a call that succeeded
pub on_ok_both : {T E P Q R : Type 0} (r : Result T E) → OnOk r P → OnOk r Q → (P → Q → R) → OnOk r R
on_ok_both (Ok x) p q f = f p q
on_ok_both (Err e) p q f = tt
