-- Bits that a machine takes, one piece after another: what it stands for and puts by them.
use Rattle.std.proofs.Common.{◌≡◌, ℕ, ◌+◌, ◌<◌, Bool, false, List, [], ◌∷◌, ◌++◌, length, get_or, take, drop, sym, ap, ◌∙◌, subst, append_assoc}
use Rattle.std.proofs.lemmas.List.{append-nil, take_more, take-append-drop}
use Rattle.pdh_edge.specs.Ports.{Outputs, IsPrefix}
use Rattle.pdh_edge.proofs.Runs.{puts_begin, puts_then, puts_part}
use Rattle.pdh_framed.specs.Taking.{Gains, GainsPart, Takes, TakesPart, TakesQuietly}

module _ (far : List Bool → List Bool) where
  pub gains_join : (a b c : List Bool) (o p q : Outputs) → Gains far a b o p → Gains far b c p q → Gains far a c o q
  gains_join a b c o p q g h = record {
    more = g.more ++ h.more;
    gained = h.gained ∙ ap (λ (x : List Bool). x ++ h.more) g.gained ∙ append_assoc (far a) g.more h.more;
    puts = puts_then 0 g.more h.more o p q g.puts h.puts;
  }

  pub part_join : (a b c d : List Bool) (o p q : Outputs) → IsPrefix (far c) (far d) → Gains far a b o p → GainsPart far b c p q → GainsPart far a d o q
  part_join a b c d o p q grows g h = record {
    more = g.more ++ (h.more ++ grows.0);
    gained = grows.1 ∙ ap (λ (x : List Bool). x ++ grows.0) (h.gained ∙ ap (λ (x : List Bool). x ++ h.more) g.gained)
        ∙ append_assoc (far a ++ g.more) h.more grows.0 ∙ append_assoc (far a) g.more (h.more ++ grows.0);
    puts = puts_part 0 g.more h.more (g.more ++ (h.more ++ grows.0)) o p q g.puts h.puts (grows.0, sym (append_assoc g.more h.more grows.0));
  }

  both : (line a b all : List Bool) → all ≡ a ++ b → (line ++ a) ++ b ≡ line ++ all
  both line a b all e = append_assoc line a b ∙ ap (λ (x : List Bool). line ++ x) (sym e)

  -- ---- bits that give nothing

  pub quietly_none : (was : List Bool → Type 0) → TakesQuietly far was was []
  quietly_none was = record {
    stands = λ line h. subst was (sym (append-nil line)) h;
    same = λ line h. ap far (append-nil line);
  }

  pub quietly_join : (a b all : List Bool) (was mid is : List Bool → Type 0) → all ≡ a ++ b → TakesQuietly far was mid a → TakesQuietly far mid is b → TakesQuietly far was is all
  quietly_join a b all was mid is e f g = record {
    stands = λ line h. subst is (both line a b all e) (g.stands (line ++ a) (f.stands line h));
    same = λ line h. sym (ap far (both line a b all e)) ∙ g.same (line ++ a) (f.stands line h) ∙ f.same line h;
  }

  pub takes_quiet : (bits : List Bool) (was is : List Bool → Type 0) (o : Outputs) → TakesQuietly far was is bits → Takes far was is bits o o
  takes_quiet bits was is o f = record {
    stands = f.stands;
    gains = λ line h. record { more = []; gained = f.same line h ∙ sym (append-nil (far line)); puts = puts_begin 0 o };
  }

  -- ---- these bits and then those

  pub takes_join : (a b all : List Bool) (was mid is : List Bool → Type 0) (o p q : Outputs) → all ≡ a ++ b → Takes far was mid a o p → Takes far mid is b p q → Takes far was is all o q
  takes_join a b all was mid is o p q e f g = record {
    stands = λ line h. subst is (both line a b all e) (g.stands (line ++ a) (f.stands line h));
    gains = λ line h. subst (λ (x : List Bool). Gains far line x o q) (both line a b all e) (gains_join line (line ++ a) ((line ++ a) ++ b) o p q (f.gains line h) (g.gains (line ++ a) (f.stands line h)));
  }

  -- no bit was taken yet
  pub takes_none : (was : List Bool → Type 0) (o : Outputs) → Takes far was was [] o o
  takes_none was o = takes_quiet [] was was o (quietly_none was)

  -- those failed
  pub takes_part : (a b all : List Bool) (was mid : List Bool → Type 0) (o p q : Outputs) → all ≡ a ++ b → Takes far was mid a o p → TakesPart far mid b p q → TakesPart far was all o q
  takes_part a b all was mid o p q e before part = record {
    gains = λ line h.
        let one : List Bool = (line ++ a) ++ b in
        let same : far (line ++ all) ≡ far one ++ [] = ap far (sym (both line a b all e)) ∙ sym (append-nil (far one)) in
        part_join line (line ++ a) one (line ++ all) o p q ([], same) (before.gains line h) (part.gains (line ++ a) (before.stands line h));
  }

  -- the next bit of a list failed
  pub takes_fails : ((line more : List Bool) → IsPrefix (far line) (far (line ++ more))) → (bits : List Bool) (n : ℕ) → n < length bits → (was mid : List Bool → Type 0) (o p q : Outputs)
      → Takes far was mid (take n bits) o p → TakesPart far mid (get_or bits n false ∷ []) p q → TakesPart far was bits o q
  takes_fails grows bits n inside was mid o p q before part = record {
    gains = λ line h.
        let at : List Bool = line ++ take n bits in
        let one : List Bool = at ++ get_or bits n false ∷ [] in
        let so_far : one ≡ line ++ take (n + 1) bits = append_assoc line (take n bits) (get_or bits n false ∷ []) ∙ ap (λ (x : List Bool). line ++ x) (sym (take_more bits n false inside)) in
        let all : one ++ drop (n + 1) bits ≡ line ++ bits =
        ap (λ (x : List Bool). x ++ drop (n + 1) bits) so_far ∙ append_assoc line (take (n + 1) bits) (drop (n + 1) bits) ∙ ap (λ (x : List Bool). line ++ x) (take-append-drop (n + 1) bits) in
        part_join line at one (line ++ bits) o p q (subst (λ (x : List Bool). IsPrefix (far one) (far x)) all (grows one (drop (n + 1) bits))) (before.gains line h) (part.gains at (before.stands line h));
  }
