-- What the tables give of what lasts is what lasts.
use Rattle.std.proofs.Common.{◌≡◌, ℕ, List, [], ◌∷◌, ◌++◌, map, Vec, Global, refl, ap, sym, ◌∙◌, subst}
use Rattle.std.specs.BTreeMap.{insert_entry}
use Rattle.std.specs.List.{AllByRecursion as Each}
use Rattle.std.specs.List.Sorted.{IsStrictlySortedBy}
use Rattle.std.specs.Map.{keys_of}
use Rattle.std.specs.Ordering.{nat_cmp, ordering_reverse}
use Rattle.std.specs.declared.cmp.Ordering.TheVariants.{Less, Greater}
use Rattle.std.specs.Cmp.{nat_cmp_total}
use Rattle.std.proofs.lemmas.Map.Keys.{sorted_head, sorted_tail}
use Rattle.xa_codes.specs.declared.write.Write.{Write}
use Rattle.mv_rules.specs.Committed.{branches_in}
use Rattle.xa_model.specs.State.{Decided}
use Rattle.xa_model.specs.Durable.{Durable, CommittedBranch, PreparedBranch}
use Rattle.xa_branch.specs.Checkpointed.{decided_as}
use Rattle.xa_recovery.specs.Durable.{as_committed, as_decided}

-- entries that come in order are put after those that are there

at_head : (k : ℕ) (xs ys : List ℕ) (P : ℕ → Type 0) → Each P (xs ++ k ∷ ys) → P k
at_head k [] ys P h = h.0
at_head k (x ∷ xs) ys P h = at_head k xs ys P h.1

put_behind : {X : Type 0} (k : ℕ) (v : X) (es : List (ℕ × X)) (ks : List ℕ) → IsStrictlySortedBy nat_cmp (keys_of es ++ k ∷ ks) → insert_entry nat_cmp es k v ≡ es ++ (k, v) ∷ []
put_behind k v [] ks s = refl
put_behind k v (e ∷ es) ks s =
    let less : nat_cmp e.0 k ≡ Less = at_head k (keys_of es) ks (λ y. nat_cmp e.0 y ≡ Less) (sorted_head nat_cmp e.0 (keys_of es ++ k ∷ ks) s) in
    let more : nat_cmp k e.0 ≡ Greater = nat_cmp_total.antisymm k e.0 ∙ ap ordering_reverse less in
    rw more (ap (λ xs. e ∷ xs) (put_behind k v es ks (sorted_tail nat_cmp e.0 (keys_of es ++ k ∷ ks) s)))

keys_behind : {X Y : Type 0} (es : List (ℕ × X)) (k : ℕ) (v : X) (rest : List (ℕ × Y)) (w : Y) → keys_of (es ++ (k, v) ∷ []) ++ keys_of rest ≡ keys_of es ++ keys_of ((k, w) ∷ rest)
keys_behind [] k v rest w = refl
keys_behind (e ∷ es) k v rest w = ap (λ ks. e.0 ∷ ks) (keys_behind es k v rest w)

branches_behind : (es : List (ℕ × List Write)) (e : ℕ × List Write) (rest : List CommittedBranch) → map as_committed (es ++ e ∷ []) ++ rest ≡ map as_committed es ++ as_committed e ∷ rest
branches_behind [] e rest = refl
branches_behind (d ∷ es) e rest = ap (λ bs. as_committed d ∷ bs) (branches_behind es e rest)

-- of all writes by timestamp, those that were moved and those that are left
pub record MovedUpto (all rest : List (ℕ × Vec Write Global)) (made : List (ℕ × List Write)) : Type 0 where
  pub split : branches_in all ≡ map as_committed made ++ branches_in rest
  pub sorted : IsStrictlySortedBy nat_cmp (keys_of made ++ keys_of rest)

pub moved_none : (all : List (ℕ × Vec Write Global)) (made : List (ℕ × List Write)) → made ≡ [] → IsStrictlySortedBy nat_cmp (keys_of all) → MovedUpto all all made
moved_none all made none s = record { split = rw none refl; sorted = rw none s }

pub moved_more : (all rest : List (ℕ × Vec Write Global)) (e : ℕ × Vec Write Global) (ws : List Write) (made new : List (ℕ × List Write)) → ws ≡ e.1.items → new ≡ insert_entry nat_cmp made e.0 ws
    → MovedUpto all (e ∷ rest) made → MovedUpto all rest new
moved_more all rest e ws made new same is h =
    let behind : new ≡ made ++ (e.0, ws) ∷ [] = is ∙ put_behind e.0 ws made (keys_of rest) h.sorted in
    record {
      split = h.split ∙ (ap (λ (vs : List Write). map as_committed made ++ as_committed (e.0, vs) ∷ branches_in rest) (sym same)
          ∙ (sym (branches_behind made (e.0, ws) (branches_in rest)) ∙ ap (λ (es : List (ℕ × List Write)). map as_committed es ++ branches_in rest) (sym behind)));
      sorted = subst (λ (ks : List ℕ). IsStrictlySortedBy nat_cmp ks)
          (sym (keys_behind made e.0 ws rest e.1) ∙ ap (λ (es : List (ℕ × List Write)). keys_of es ++ keys_of rest) (sym behind)) h.sorted;
    }

none_behind : {A : Type 0} (xs : List A) → xs ++ [] ≡ xs
none_behind [] = refl
none_behind (x ∷ xs) = ap (λ ys. x ∷ ys) (none_behind xs)

pub moved_all : (all rest : List (ℕ × Vec Write Global)) (made : List (ℕ × List Write)) → rest ≡ [] → MovedUpto all rest made → map as_committed made ≡ branches_in all
moved_all all rest made none h = sym (h.split ∙ (ap (λ (es : List (ℕ × Vec Write Global)). map as_committed made ++ branches_in es) none ∙ none_behind (map as_committed made)))

-- the whole

pub same_decisions : (ds : List Decided) → map as_decided (map decided_as ds) ≡ ds
same_decisions [] = refl
same_decisions (d ∷ ds) = ap (λ es. d ∷ es) (same_decisions ds)

pub same_parts : (c d : Durable) → c.boot ≡ d.boot → c.committed ≡ d.committed → c.prepared ≡ d.prepared → c.decided ≡ d.decided → c ≡ d
same_parts c d e f g h = four c.boot d.boot c.committed d.committed c.prepared d.prepared c.decided d.decided e f g h
  where
    four : (a b : ℕ) (cs bs : List CommittedBranch) (ps qs : List PreparedBranch) (ds es : List Decided) → a ≡ b → cs ≡ bs → ps ≡ qs → ds ≡ es
        → ◌≡◌ {A = Durable} (record { boot = a; committed = cs; prepared = ps; decided = ds }) (record { boot = b; committed = bs; prepared = qs; decided = es })
    four a b cs bs ps qs ds es e f g h = cc (e, f, g, h)
