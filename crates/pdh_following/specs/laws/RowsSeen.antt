-- Rows of events that were seen one after the other.
use Rattle.std.specs.Prelude.{◌≡◌, ℕ, List, [], ◌∷◌, ◌++◌, Option, Some, None}
use Rattle.std.proofs.Common.{refl, sym, ◌∙◌, ap, subst, append_assoc}
use Rattle.std.proofs.KnownBytes.{Appends-nil, Appends-trans}
use Rattle.csv.specs.declared.writer.Writer.{Writer}
use Rattle.csv.specs.Writing.{default_writer, row_text, text_written}
use Rattle.pdh_placed.specs.declared.placed.Placed.{Placed}
use Rattle.pdh_following.specs.declared.fault.FollowFault.{FollowFault}
use Rattle.pdh_following.specs.Rows.{event_fields, rows_of, Gained, RowsSeen}

pub gained_nothing : {W : Type 0} (contents : W → Option (List ℕ)) (file : Option W) → Gained contents contents file file []
gained_nothing contents None = tt
gained_nothing contents (Some file) = Appends-nil (contents file)

pub gained_both : {A B C : Type 0} (f : A → Option (List ℕ)) (g : B → Option (List ℕ)) (h : C → Option (List ℕ)) (a : Option A) (b : Option B) (c : Option C) (xs ys : List ℕ)
    → Gained f g a b xs → Gained g h b c ys → Gained f h a c (xs ++ ys)
gained_both f g h None None None xs ys p q = tt
gained_both f g h None None (Some c) xs ys p q = absurd q
gained_both f g h None (Some b) c xs ys p q = absurd p
gained_both f g h (Some a) None c xs ys p q = absurd p
gained_both f g h (Some a) (Some b) None xs ys p q = absurd q
gained_both f g h (Some a) (Some b) (Some c) xs ys p q = Appends-trans (f a) (g b) (h c) xs ys p q

rows_join : (rate from : ℕ) (xs ys : List Placed) → rows_of rate from (xs ++ ys) ≡ rows_of rate from xs ++ rows_of rate from ys
rows_join rate from [] ys = refl
rows_join rate from (x ∷ xs) ys =
    ap (λ (l : List ℕ). row_text default_writer (event_fields rate from x) ++ l) (rows_join rate from xs ys)
    ∙ sym (append_assoc (row_text default_writer (event_fields rate from x)) (rows_of rate from xs) (rows_of rate from ys))

pub rows_none : {W : Type 0} (contents : W → Option (List ℕ)) (rate from : ℕ) (rows : Option (Writer W)) (fault : Option FollowFault)
    → RowsSeen contents rate from rows rows fault fault []
rows_none contents rate from rows fault = record { could = λ none. none; written = λ none. gained_nothing (text_written contents) rows }

pub rows_both : {W : Type 0} (contents : W → Option (List ℕ)) (rate from : ℕ) (a b c : Option (Writer W)) (f g h : Option FollowFault) (xs ys : List Placed)
    → RowsSeen contents rate from a b f g xs → RowsSeen contents rate from b c g h ys → RowsSeen contents rate from a c f h (xs ++ ys)
rows_both {W} contents rate from a b c f g h xs ys first second =
    let text : Writer W → Option (List ℕ) = text_written contents in
    record {
      could = λ none. first.could (second.could none);
      written = λ none. subst (λ (l : List ℕ). Gained text text a c l) (sym (rows_join rate from xs ys))
          (gained_both text text text a b c (rows_of rate from xs) (rows_of rate from ys) (first.written (second.could none)) (second.written none));
    }
