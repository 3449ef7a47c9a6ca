-- Calls one after another.
use Rattle.std.proofs.Common.{◌≡◌, ℕ, List, [], Bool, ◌++◌, Option, Some, None, Result, Ok, Err, refl, sym, ap, ◌∙◌, subst}
use Rattle.std.proofs.lemmas.List.{append-nil}
use Rattle.std.proofs.lemmas.Result.{on_ok_weaker, on_err_weaker}
use Rattle.pdh_edge.specs.Ports.{Outputs, HasCause, faults_after, Puts, PutsPart, PrefixOf, for_leaf, nothing, after}
use Rattle.pdh_edge.proofs.Runs.{puts_begin, puts_part, puts_then}
use Rattle.pdh_blocks.specs.State.{PortState}
use Rattle.pdh_blocks.specs.Lists.{outputs_of}
use Rattle.pdh_blocks.specs.Held.{IsPort}
use Rattle.pdh_blocks.specs.Done.{StartsAtMost, AppendsWaiting, PutsBits}
use Rattle.pdh_blocks.specs.Kept.{Drains}
use Rattle.pdh_blocks.specs.laws.PortLaws.{drains_same, drains_join}
use Rattle.pdh_blocks.proofs.Taking.{part_none}

-- ---- a cause

-- a call that counted none, and one more
pub cause_then : {T E : Type 0} (a b c : ℕ) (result : Result T E) → b ≡ a → HasCause b c result → HasCause a c result
cause_then a b c result same cause = cause ∙ ap (faults_after result) same

-- ---- starts

pub starts_none : {T E : Type 0} (done : T) (a : PortState) → IsPort a → StartsAtMost {T = T} {E = E} a a (Ok done)
starts_none done a port = record { port = port; drains = drains_same a; lists = refl; outputs = refl; cause = refl }

pub starts_join : {T E : Type 0} (a b c : PortState) (done : T) (result : Result T E) → StartsAtMost {T = T} {E = E} a b (Ok done) → StartsAtMost b c result → StartsAtMost a c result
starts_join a b c done result p q = record {
  port = q.port;
  drains = drains_join p.drains q.drains;
  lists = q.lists ∙ p.lists;
  outputs = q.outputs ∙ p.outputs;
  cause = cause_then a.drain_faults b.drain_faults c.drain_faults result p.cause q.cause;
}

-- ---- one list

part_after : (x : List Bool) (o now : Option (List Bool)) → PrefixOf [] (after x o) now → PrefixOf x o now
part_after x None None part = tt
part_after x None (Some new) part = part
part_after x (Some l) None part = part
part_after x (Some l) (Some new) part = (part.0, sym (append-nil (l ++ x)) ∙ part.1)

-- ---- all lists

puts_cut : (a b c : Outputs) (bits : ℕ → List Bool) → Puts bits a b → PutsPart nothing b c → PutsPart bits a c
puts_cut a b c bits p q j = part_after (bits j) (a.told j) (c.told j) (subst (λ (o : Option (List Bool)). PrefixOf [] o (c.told j)) (p j) (q j))

-- ---- appends

pub appends_none : {T E : Type 0} (done : T) (a : PortState) → IsPort a → AppendsWaiting {T = T} {E = E} a a (Ok done)
appends_none done a port = record { port = port; drains = drains_same a; ok = refl; err = tt; cause = refl }

module _ {T E : Type 0} (a b c : PortState) (done : T) where
  pub appends_join : (result : Result T E) → AppendsWaiting {T = T} {E = E} a b (Ok done) → AppendsWaiting b c result → AppendsWaiting a c result
  appends_join result p q = record {
    port = q.port;
    drains = drains_join p.drains q.drains;
    ok = on_ok_weaker result (λ same. same ∙ p.ok) q.ok;
    err = on_err_weaker result (λ part. subst (λ (o : Outputs). PutsPart nothing o (outputs_of c)) p.ok part) q.err;
    cause = cause_then a.drain_faults b.drain_faults c.drain_faults result p.cause q.cause;
  }

  pub starts_append : StartsAtMost {T = T} {E = E} a b (Ok done) → AppendsWaiting {T = T} {E = E} a b (Ok done)
  starts_append p = record { port = p.port; drains = p.drains; ok = p.lists; err = tt; cause = p.cause }

pub starts_fail_append : {T E : Type 0} (a b : PortState) (why : E) → StartsAtMost {T = T} {E = E} a b (Err why) → AppendsWaiting {T = T} {E = E} a b (Err why)
starts_fail_append a b why p = record { port = p.port; drains = p.drains; ok = tt; err = part_none nothing (outputs_of a) (outputs_of b) p.lists; cause = p.cause }

-- ---- puts

pub puts_fail_start : {T E : Type 0} (bits : ℕ → List Bool) (a b : PortState) (why : E) → StartsAtMost {T = T} {E = E} a b (Err why) → PutsBits {T = T} {E = E} bits a b (Err why)
puts_fail_start bits a b why p = record { port = p.port; drains = p.drains; ok = tt; err = part_none bits (outputs_of a) (outputs_of b) p.lists; cause = p.cause }

-- bits that fill a block, after the outputs were started
pub puts_append : {T E : Type 0} (bits : ℕ → List Bool) (a b c d : PortState) (done : T) (result : Result T E) → StartsAtMost {T = T} {E = E} a b (Ok done) → Drains b c → c.drain_faults ≡ b.drain_faults → Puts bits (outputs_of b) (outputs_of c) → AppendsWaiting c d result
    → PutsBits bits a d result
puts_append bits a b c d done result starts drains faults puts appends =
    let first : Puts bits (outputs_of a) (outputs_of c) = subst (λ (o : Outputs). Puts bits o (outputs_of c)) starts.lists puts in
    record {
      port = appends.port;
      drains = drains_join starts.drains (drains_join drains appends.drains);
      ok = on_ok_weaker result (λ same. subst (λ (o : Outputs). Puts bits (outputs_of a) o) (sym same) first) appends.ok;
      err = on_err_weaker result (λ part. puts_cut (outputs_of a) (outputs_of c) (outputs_of d) bits first part) appends.err;
      cause = cause_then a.drain_faults c.drain_faults d.drain_faults result (faults ∙ starts.cause) appends.cause;
    }

pub puts_none_yet : {T E : Type 0} (done : T) (k : ℕ) (a : PortState) → IsPort a → PutsBits {T = T} {E = E} (for_leaf k []) a a (Ok done)
puts_none_yet done k a port = record { port = port; drains = drains_same a; ok = puts_begin k (outputs_of a); err = tt; cause = refl }

module _ {T E : Type 0} (a b c : PortState) (done : T) (k : ℕ) (x y : List Bool) where
  pub puts_join : PutsBits {T = T} {E = E} (for_leaf k x) a b (Ok done) → PutsBits {T = T} {E = E} (for_leaf k y) b c (Ok done) → PutsBits {T = T} {E = E} (for_leaf k (x ++ y)) a c (Ok done)
  puts_join p q = record {
    port = q.port;
    drains = drains_join p.drains q.drains;
    ok = puts_then k x y (outputs_of a) (outputs_of b) (outputs_of c) p.ok q.ok;
    err = tt;
    cause = q.cause ∙ p.cause;
  }

  pub puts_join_part : (z : List Bool) (why : E) → PutsBits {T = T} {E = E} (for_leaf k x) a b (Ok done) → PutsBits {T = T} {E = E} (for_leaf k y) b c (Err why) → PutsBits {T = T} {E = E} (for_leaf k ((x ++ y) ++ z)) a c (Err why)
  puts_join_part z why p q = record {
    port = q.port;
    drains = drains_join p.drains q.drains;
    ok = tt;
    err = puts_part k x y ((x ++ y) ++ z) (outputs_of a) (outputs_of b) (outputs_of c) p.ok q.err (z, refl);
    cause = cause_then {T = T} {E = E} a.drain_faults b.drain_faults c.drain_faults (Err why) p.cause q.cause;
  }
