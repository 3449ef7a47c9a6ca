-- What logs were told, one call after another.
use Rattle.std.proofs.Common.{◌≡◌, ℕ, suc, ◌+◌, ◌-◌, ◌<◌, true, false, List, [], ◌∷◌, ◌++◌, length, refl, sym, ap, ◌∙◌, subst, arith, length-append, append_assoc, Result, Ok, Err}
use Rattle.std.specs.Prelude.{flat_map}
use Rattle.std.specs.List.{range_with_len}
use Rattle.std.proofs.lemmas.List.{append-nil}
use Rattle.pdh_slips.specs.declared.log.SlipLog as log
use Rattle.pdh_slips.specs.declared.slip.Slip.{Slip}
use Rattle.pdh_tx.specs.declared.tx.TxStop.{TxStop}
use Rattle.pdh_tx.specs.declared.tx.TxStop.TheVariants.{Overflow, Underflow, NoFrame, Failed, Ended, LogFailed}
use Rattle.pdh_tx.specs.Meaning.{is_failed}
use Rattle.pdh_tx.specs.Telling.{log_faults_met, FailsAtLast, Told, TellsFront, TellsAll, TellsNone, Tells}
use Rattle.pdh_tx.proofs.Advancing.{flat_push, flat_split}

pub tells_err : {G T : Type 0} {logs : log.Ghosts G} {a b : G} {slips : List Slip} (r : Result T TxStop) (stop : TxStop) → r ≡ Err stop → TellsFront logs a b slips stop → Tells logs a b slips r
tells_err r stop is front = rw is (record { all = tt; front = front })

pub tells_ok : {G T : Type 0} {logs : log.Ghosts G} {a b : G} {slips : List Slip} (value : T) → TellsAll logs a b slips → Tells logs a b slips (Ok value)
tells_ok value all = record { all = all; front = tt }

-- the same slips, written otherwise
pub tells_same : {G T : Type 0} {logs : log.Ghosts G} {a b : G} {r : Result T TxStop} (slips others : List Slip) → others ≡ slips → Tells logs a b slips r → Tells logs a b others r
tells_same {logs = logs} {a = a} {b = b} {r = r} slips others same tells = subst (λ (l : List Slip). Tells logs a b l r) (sym same) tells

-- a log that counts no fault was told all that it was to be told
pub told_all : (stop : TxStop) → 0 ≡ log_faults_met stop 0 → stop ≡ LogFailed → ⊥
told_all stop counted is = absurd (no (counted ∙ ap (λ v. log_faults_met v 0) is))
  where
    no : 0 ≡ log_faults_met LogFailed 0 → ⊥
    no h = omega (arith, h)

pub not_log_failed : (stop : TxStop) → is_failed stop ≡ false → stop ≡ LogFailed → ⊥
not_log_failed stop fine is = absurd (no (sym (ap is_failed is) ∙ fine))
  where
    no : true ≡ false → ⊥
    no h = cc

-- ---- a call that brings no slip

front_empty : (told rest slips : List Slip) → told ++ rest ≡ slips → slips ≡ [] → told ≡ []
front_empty [] rest slips front none = refl
front_empty (x ∷ told) rest slips front none = absurd (no (front ∙ none))
  where
    no : x ∷ (told ++ rest) ≡ [] → ⊥
    no h = cc

-- it told a log of none where it met nothing
pub none_all : {G : Type 0} {logs : log.Ghosts G} {a b : G} {slips : List Slip} → slips ≡ [] → TellsAll logs a b slips → TellsNone logs a b
none_all {logs = logs} {a = a} {b = b} none tells = subst (λ (l : List Slip). TellsAll logs a b l) none tells

-- there was none of which the log couldn't be told
pub none_failed : {G : Type 0} {logs : log.Ghosts G} {a b : G} {slips : List Slip} {stop : TxStop} → slips ≡ [] → TellsFront logs a b slips stop → stop ≡ LogFailed → ⊥
none_failed {logs = logs} {a = a} {b = b} {slips = slips} none tells is =
    let failed : FailsAtLast logs a b tells.told = subst (λ (stop : TxStop). Told logs a b stop tells.told) is tells.logs_them in
    absurd (omega (arith, failed.some, ap length (front_empty tells.told tells.rest slips tells.front none)))

-- and it told it of none where it stopped
pub none_front : {G : Type 0} {logs : log.Ghosts G} {a b : G} {slips : List Slip} (stop : TxStop) → slips ≡ [] → TellsFront logs a b slips stop → TellsNone logs a b
none_front {logs = logs} {a = a} {b = b} {slips = slips} stop none tells = go stop (none_failed none tells) (subst (λ (l : List Slip). Told logs a b stop l) (front_empty tells.told tells.rest slips tells.front none) tells.logs_them) tells.counted
  where
    go : (stop : TxStop) → (stop ≡ LogFailed → ⊥) → Told logs a b stop [] → logs.log_faults b ≡ log_faults_met stop (logs.log_faults a) → TellsNone logs a b
    go LogFailed other told counted = absurd (other refl)
    go (Overflow place) other told counted = record { logs_them = told; unfailed = counted }
    go (Underflow place) other told counted = record { logs_them = told; unfailed = counted }
    go (NoFrame node) other told counted = record { logs_them = told; unfailed = counted }
    go Failed other told counted = record { logs_them = told; unfailed = counted }
    go (Ended leaf) other told counted = record { logs_them = told; unfailed = counted }

-- the laws of a log, as far as they are needed here
pub record IsLog {G : Type 0} (logs : log.Ghosts G) : Type 0 where
  pub nothing : (a : G) → logs.logged a [] a
  pub joins : (a b c : G) (xs ys : List Slip) → logs.logged a xs b → logs.logged b ys c → logs.logged a (xs ++ ys) c
  pub breaks : (a b c : G) (xs ys : List Slip) → logs.logged a xs b → logs.broken b ys c → logs.broken a (xs ++ ys) c

module _ {G : Type 0} (logs : log.Ghosts G) (is : IsLog logs) where
  pub all_none : (a : G) → TellsAll logs a a []
  all_none a = record { logs_them = is.nothing a; unfailed = refl }

  pub all_join : (a b c : G) (xs ys : List Slip) → TellsAll logs a b xs → TellsAll logs b c ys → TellsAll logs a c (xs ++ ys)
  all_join a b c xs ys p q = record { logs_them = is.joins a b c xs ys p.logs_them q.logs_them; unfailed = q.unfailed ∙ p.unfailed }

  told_join : (a b c : G) (xs ys : List Slip) (stop : TxStop) → logs.logged a xs b → Told logs b c stop ys → Told logs a c stop (xs ++ ys)
  told_join a b c xs ys LogFailed p q = record {
    takes = q.takes;
    some = omega (arith, q.some, length-append xs ys);
    broken = is.breaks a b c xs ys p q.broken;
  }
  told_join a b c xs ys (Overflow place) p q = is.joins a b c xs ys p q
  told_join a b c xs ys (Underflow place) p q = is.joins a b c xs ys p q
  told_join a b c xs ys (NoFrame node) p q = is.joins a b c xs ys p q
  told_join a b c xs ys Failed p q = is.joins a b c xs ys p q
  told_join a b c xs ys (Ended leaf) p q = is.joins a b c xs ys p q

  pub front_join : (a b c : G) (xs ys : List Slip) (stop : TxStop) → TellsAll logs a b xs → TellsFront logs b c ys stop → TellsFront logs a c (xs ++ ys) stop
  front_join a b c xs ys stop p q = record {
    told = xs ++ q.told;
    rest = q.rest;
    front = append_assoc xs q.told q.rest ∙ ap (λ l. xs ++ l) q.front;
    logs_them = told_join a b c xs q.told stop p.logs_them q.logs_them;
    counted = q.counted ∙ ap (log_faults_met stop) p.unfailed;
  }

  -- a call that followed stopped without a slip
  pub front_none : (a b : G) (xs : List Slip) (stop : TxStop) → (stop ≡ LogFailed → ⊥) → TellsAll logs a b xs → TellsFront logs a b xs stop
  front_none a b xs LogFailed other p = absurd (other refl)
  front_none a b xs (Overflow place) other p = record { told = xs; rest = []; front = append-nil xs; logs_them = p.logs_them; counted = p.unfailed }
  front_none a b xs (Underflow place) other p = record { told = xs; rest = []; front = append-nil xs; logs_them = p.logs_them; counted = p.unfailed }
  front_none a b xs (NoFrame node) other p = record { told = xs; rest = []; front = append-nil xs; logs_them = p.logs_them; counted = p.unfailed }
  front_none a b xs Failed other p = record { told = xs; rest = []; front = append-nil xs; logs_them = p.logs_them; counted = p.unfailed }
  front_none a b xs (Ended leaf) other p = record { told = xs; rest = []; front = append-nil xs; logs_them = p.logs_them; counted = p.unfailed }

  -- a call stopped before the first slip
  pub front_first : (a : G) (xs : List Slip) (stop : TxStop) → (stop ≡ LogFailed → ⊥) → TellsFront logs a a xs stop
  front_first a xs stop other = (let none = front_none a a [] stop other (all_none a) in record {
    told = none.told;
    rest = none.rest ++ xs;
    front = sym (append_assoc none.told none.rest xs) ∙ ap (λ l. l ++ xs) none.front;
    logs_them = none.logs_them;
    counted = none.counted;
  })

  -- by what a call that followed told it
  pub tells_join : {T : Type 0} (a b c : G) (xs ys : List Slip) (r : Result T TxStop) → TellsAll logs a b xs → Tells logs b c ys r → Tells logs a c (xs ++ ys) r
  tells_join a b c xs ys (Ok value) p q = tells_ok value (all_join a b c xs ys p q.all)
  tells_join a b c xs ys (Err stop) p q = record { all = tt; front = front_join a b c xs ys stop p q.front }

-- slips that weren't come to
pub front_more : {G : Type 0} (logs : log.Ghosts G) (a b : G) (xs ys zs : List Slip) (stop : TxStop) → zs ≡ xs ++ ys → TellsFront logs a b xs stop → TellsFront logs a b zs stop
front_more logs a b xs ys zs stop same p = record {
  told = p.told;
  rest = p.rest ++ ys;
  front = sym (append_assoc p.told p.rest ys) ∙ ap (λ l. l ++ ys) p.front ∙ sym same;
  logs_them = p.logs_them;
  counted = p.counted;
}

-- A loop whose next step means what it did at its start: `f` tells the slips of each step, by that meaning.
module _ {G X : Type 0} (logs : log.Ghosts G) (is : IsLog logs) (f : X → ℕ → List Slip) (was now : X) (same : now ≡ was) (i : ℕ) (a b : G) (first : TellsAll logs a b (flat_map (f was) (range_with_len 0 i))) where
  pub loop_tells : (c : G) → TellsAll logs b c (f now i) → TellsAll logs a c (flat_map (f was) (range_with_len 0 (i + 1)))
  loop_tells c second =
      let here : TellsAll logs b c (f was i) = subst (λ (x : X). TellsAll logs b c (f x i)) same second in
      let next : suc i ≡ i + 1 = omega arith in
      subst (λ (l : List Slip). TellsAll logs a c l) (sym (flat_push (f was) i) ∙ ap (λ k. flat_map (f was) (range_with_len 0 k)) next) (all_join logs is a b c (flat_map (f was) (range_with_len 0 i)) (f was i) first here)

  pub loop_tells_front : (n : ℕ) (stop : TxStop) (c : G) → i < n → TellsFront logs b c (f now i) stop → TellsFront logs a c (flat_map (f was) (range_with_len 0 n)) stop
  loop_tells_front n stop c less second =
      let here : TellsFront logs b c (f was i) stop = subst (λ (x : X). TellsFront logs b c (f x i) stop) same second in
      front_more logs a c (flat_map (f was) (range_with_len 0 i) ++ f was i) (flat_map (f was) (range_with_len (0 + suc i) (n - suc i))) (flat_map (f was) (range_with_len 0 n)) stop
      (flat_split (f was) (suc i) n (omega (arith, less)) ∙ ap (λ l. l ++ flat_map (f was) (range_with_len (0 + suc i) (n - suc i))) (flat_push (f was) i))
      (front_join logs is a b c (flat_map (f was) (range_with_len 0 i)) (f was i) stop first here)

  pub loop_tells_all : (n tribs : ℕ) → i ≡ n → tribs ≡ n → TellsAll logs a b (flat_map (f was) (range_with_len 0 tribs))
  loop_tells_all n tribs end all = subst (λ k. TellsAll logs a b (flat_map (f was) (range_with_len 0 k))) (end ∙ sym all) first
