-- What the records stand for once a write was added, however many keys its branch has written.
use Rattle.std.proofs.Common.{◌≡◌, ℕ, Bool, true, false, ◌&&◌, List, [], ◌∷◌, ◌++◌, Option, refl, sym, ◌∙◌, subst}
use Rattle.std.specs.Prelude.{if◌then◌else◌, ◌==◌, Some, Result, Ok, Err, OnOk, IsSome}
use Rattle.slab.specs.Slab.{get as chain_in}
use Rattle.mv_chain.specs.declared.version.Version.{Version}
use Rattle.mv_chain.specs.Accesses.{is_late, has_undecided, IsUnsettled}
use Rattle.mv_chain.specs.Chain.{shows}
use Rattle.mv_rules.specs.declared.records.Records.{Records}
use Rattle.mv_rules.specs.Accesses.{Accesses, wrote}
use Rattle.mv_rules.specs.Records.{StandsFor, index_of, chain_at, own_of}
use Rattle.mv_rules.specs.Held.{Changes}
use Rattle.mv_rules.specs.Steps.{IsWritten}
use Rattle.mv_rules.proofs.Written.{finds, stands_written}

pub both_ok : {T E : Type 0} {A B C : Type 0} (r : Result T E) → OnOk r A → OnOk r B → (A → B → C) → OnOk r C
both_ok (Ok x) a b f = f a b
both_ok (Err e) a b f = tt

module _ (h : Accesses) (r : Records) (key : List ℕ) (i ts : ℕ) (vs : List Version) (u : IsUnsettled ts h.low h.writes) (s : StandsFor h r) (here : index_of key r ≡ Some i) (at : vs ≡ chain_at i r) (timely : is_late key ts h.reads ≡ false) where
  own_is : (x : Bool) → ((shows ts vs).from == ts) ≡ x → has_undecided key ts h.writes ≡ x
  own_is x e = sym (finds h r key i ts u s here).own ∙ subst (λ (y : List Version). ((shows ts y).from == ts) ≡ x) at e

  pub put_back_again : (value : Option (List ℕ)) (r2 : Records) → ((shows ts vs).from == ts) ≡ true → ((q : List ℕ) → index_of q r2 ≡ index_of q r) → Changes i r.pool r.chains r2.pool r2.chains → IsSome (chain_in r2.chains i) → IsWritten ts value vs (chain_at i r2) → ((t : ℕ) → own_of t r2 ≡ own_of t r) → StandsFor (record h { writes = wrote ts key value ∷ h.writes }) r2
  put_back_again value r2 e indices changed there written lists =
      stands_written h r r2 key i ts value u timely here indices changed there (subst (λ (y : List Version). IsWritten ts value y (chain_at i r2)) at written) (λ t. lists t ∙ rw (own_is true e) (kept t (t == ts))) s
    where
      kept : (t : ℕ) (y : Bool) → own_of t r ≡ (if y && false then own_of ts r ++ (record { key = key; index = i }) ∷ [] else own_of t r)
      kept t true = refl
      kept t false = refl

  pub put_back_first : (value : Option (List ℕ)) (r2 : Records) → ((shows ts vs).from == ts) ≡ false → ((q : List ℕ) → index_of q r2 ≡ index_of q r) → Changes i r.pool r.chains r2.pool r2.chains → IsSome (chain_in r2.chains i) → IsWritten ts value vs (chain_at i r2) → ((t : ℕ) → own_of t r2 ≡ (if t == ts then own_of ts r ++ (record { key = key; index = i }) ∷ [] else own_of t r)) → StandsFor (record h { writes = wrote ts key value ∷ h.writes }) r2
  put_back_first value r2 e indices changed there written lists =
      stands_written h r r2 key i ts value u timely here indices changed there (subst (λ (y : List Version). IsWritten ts value y (chain_at i r2)) at written) (λ t. lists t ∙ rw (own_is false e) (kept t (t == ts))) s
    where
      kept : (t : ℕ) (y : Bool) → (if y then own_of ts r ++ (record { key = key; index = i }) ∷ [] else own_of t r) ≡ (if y && true then own_of ts r ++ (record { key = key; index = i }) ∷ [] else own_of t r)
      kept t true = refl
      kept t false = refl
