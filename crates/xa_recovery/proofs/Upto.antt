-- The last writes of branches, from the greatest timestamp down.
use Rattle.std.proofs.Common.{◌≡◌, ℕ, ◌==◌, Bool, true, false, not, ◌||◌, cond, List, [], ◌∷◌, ◌++◌, length, map, refl, ap, sym, ◌∙◌, subst, arith}
use Rattle.std.specs.Prelude.{filter, nat_lt, bytes_eq}
use Rattle.std.specs.BTreeMap.{insert_entry}
use Rattle.std.specs.BTreeSet.{BTreeSet}
use Rattle.std.specs.Cmp.Lexicographic.{slice_cmp}
use Rattle.std.specs.List.{AllByRecursion}
use Rattle.std.specs.Ordering.{nat_cmp, is_eq}
use Rattle.std.proofs.lemmas.Bool.Decides.{nat_tests}
use Rattle.std.proofs.lemmas.Cmp.{nat_list_eq_equiv}
use Rattle.std.proofs.lemmas.List.Folds.{list_any-append}
use Rattle.std.proofs.lemmas.Map.Text.{is_eq-slice_cmp}
use Rattle.xa_codes.specs.declared.write.Write.{Write}
use Rattle.xa_model.specs.Durable.{CommittedBranch, Pairwise, commits_before, is_written_in, is_written, not_overwritten, with_writes, last_writes}
use Rattle.xa_model.proofs.Inserts.{pairwise_behind}
use Rattle.xa_model.proofs.LastWrites.{left_or_later, last_all}
use Rattle.xa_recovery.specs.Durable.{as_committed}
use Rattle.xa_recovery.specs.Last.{Notes, has_key}
use Rattle.xa_recovery.proofs.Entries.{front}
use Rattle.xa_recovery.proofs.Standing.{all_of}

-- Of all branches these are left; `written` has the keys of those after them, and `last` their last writes.
pub record Upto (all : List CommittedBranch) (rest : List (ℕ × List Write)) (written : BTreeSet (List ℕ)) (last : List (ℕ × List Write)) : Type 0 where
  pub later : List CommittedBranch
  pub split : all ≡ map as_committed rest ++ later
  pub last_is : map as_committed last ≡ last_writes later
  pub keys : (key : List ℕ) → has_key written key ≡ is_written key later

pub nothing_yet : (es : List (ℕ × List Write)) (written : BTreeSet (List ℕ)) (last : List (ℕ × List Write)) → written.keys ≡ [] → last ≡ [] → Upto (map as_committed es) es written last
nothing_yet es written last none empty = record {
  later = [];
  split = sym (append_none (map as_committed es));
  last_is = ap (map as_committed) empty;
  keys = λ key. rw none refl;
}
  where
    append_none : {A : Type 0} (xs : List A) → xs ++ [] ≡ xs
    append_none [] = refl
    append_none (x ∷ xs) = ap (λ ys. x ∷ ys) (append_none xs)

pub all_done : (all : List CommittedBranch) (rest : List (ℕ × List Write)) (written : BTreeSet (List ℕ)) (last : List (ℕ × List Write)) → rest ≡ [] → Upto all rest written last
    → map as_committed last ≡ last_writes all
all_done all rest written last none u = u.last_is ∙ ap last_writes (sym (u.split ∙ ap (λ es. map as_committed es ++ u.later) none))

same_filter : {A : Type 0} (p q : A → Bool) → ((x : A) → p x ≡ q x) → (xs : List A) → filter p xs ≡ filter q xs
same_filter p q h [] = refl
same_filter p q h (x ∷ xs) = let here : p x ≡ q x = h x in let rest : filter p xs ≡ filter q xs = same_filter p q h xs in rw (here, rest) refl

moved : (es : List (ℕ × List Write)) (e : ℕ × List Write) (later : List CommittedBranch) → map as_committed (es ++ e ∷ []) ++ later ≡ map as_committed es ++ as_committed e ∷ later
moved [] e later = refl
moved (d ∷ es) e later = ap (λ bs. as_committed d ∷ bs) (moved es e later)

with_some : (t : ℕ) (ws : List Write) (bs : List CommittedBranch) → (length ws ≡ 0 → ⊥) → with_writes t ws bs ≡ record { timestamp = t; writes = ws } ∷ bs
with_some t [] bs h = absurd (h refl)
with_some t (w ∷ ws) bs h = refl

no_write : (ws : List Write) → length ws ≡ 0 → ws ≡ []
no_write [] e = refl
no_write (w ∷ ws) e = absurd (omega arith)

-- what the branch before them leaves
left_is : (written : BTreeSet (List ℕ)) (later : List CommittedBranch) (ws kept : List Write) → ((key : List ℕ) → has_key written key ≡ is_written key later)
    → kept ≡ filter (λ w. not (has_key written w.key)) ws → kept ≡ not_overwritten later ws
left_is written later ws kept keys e = e ∙ same_filter (λ w. not (has_key written w.key)) (λ w. not (is_written w.key later)) (λ w. ap not (keys w.key)) ws

now_written : (b : CommittedBranch) (later : List CommittedBranch) (kept : List Write) (key : List ℕ) → kept ≡ not_overwritten later b.writes → (is_written_in key kept || is_written key later) ≡ is_written key (b ∷ later)
now_written b later kept key e = ap (λ ws. is_written_in key ws || is_written key later) e ∙ left_or_later key later b.writes

-- a branch whose writes were all written over
pub passed_over : (all : List CommittedBranch) (old rest : List (ℕ × List Write)) (e : ℕ × List Write) (written : BTreeSet (List ℕ)) (last : List (ℕ × List Write)) (kept : List Write)
    → Upto all old written last → old ≡ rest ++ e ∷ [] → kept ≡ filter (λ w. not (has_key written w.key)) e.1 → length kept ≡ 0 → Upto all rest written last
passed_over all old rest e written last kept u is left none =
    let here : kept ≡ not_overwritten u.later e.1 = left_is written u.later e.1 kept u.keys left in
    let empty : not_overwritten u.later e.1 ≡ [] = sym here ∙ no_write kept none in
    record {
      later = as_committed e ∷ u.later;
      split = u.split ∙ (ap (λ es. map as_committed es ++ u.later) is ∙ moved rest e u.later);
      last_is = u.last_is ∙ sym (ap (λ ws. with_writes e.0 ws (last_writes u.later)) empty);
      keys = λ key. u.keys key ∙ now_written (as_committed e) u.later [] key (sym empty);
    }

-- and one that has last writes
pub taken : (all : List CommittedBranch) (old rest : List (ℕ × List Write)) (e : ℕ × List Write) (written new : BTreeSet (List ℕ)) (last more : List (ℕ × List Write)) (kept : List Write)
    → Pairwise commits_before all → Upto all old written last → old ≡ rest ++ e ∷ [] → kept ≡ filter (λ w. not (has_key written w.key)) e.1 → (length kept ≡ 0 → ⊥)
    → Notes written kept new
    → more ≡ insert_entry nat_cmp last e.0 kept → Upto all rest new more
taken all old rest e written new last more kept ordered u is left some noted entries =
    let here : kept ≡ not_overwritten u.later e.1 = left_is written u.later e.1 kept u.keys left in
    let split : all ≡ map as_committed rest ++ as_committed e ∷ u.later = u.split ∙ (ap (λ es. map as_committed es ++ u.later) is ∙ moved rest e u.later) in
    let behind : AllByRecursion (λ b. commits_before (as_committed e) b ≡ true) u.later = pairwise_behind commits_before (map as_committed rest) (as_committed e) u.later (subst (λ (bs : List CommittedBranch). Pairwise commits_before bs) split ordered) in
    let below : AllByRecursion (λ b. nat_lt e.0 b.timestamp ≡ true) (map as_committed last) = subst (λ (bs : List CommittedBranch). AllByRecursion (λ b. nat_lt e.0 b.timestamp ≡ true) bs) (sym u.last_is) (last_all (λ t. nat_lt e.0 t ≡ true) u.later behind) in
    let first : insert_entry nat_cmp last e.0 kept ≡ (e.0, kept) ∷ last = front e.0 kept last (all_of as_committed (λ b. nat_lt e.0 b.timestamp ≡ true) (λ d. nat_lt e.0 d.0 ≡ true) (λ d h. h) last below) in
    record {
      later = as_committed e ∷ u.later;
      split = split;
      last_is = ap (map as_committed) (entries ∙ first)
          ∙ (ap (λ (bs : List CommittedBranch). as_committed (e.0, kept) ∷ bs) u.last_is
          ∙ (sym (with_some e.0 kept (last_writes u.later) some) ∙ ap (λ ws. with_writes e.0 ws (last_writes u.later)) here));
      keys = λ key. noted key ∙ (ap (λ b. is_written_in key kept || b) (u.keys key) ∙ now_written (as_committed e) u.later kept key here);
    }

-- one more key is noted
noted_by : (c d a b : Bool) → c ≡ d → cond c true (a || b) ≡ ((a || (d || false)) || b)
noted_by true true true b e = refl
noted_by true true false b e = refl
noted_by true false a b e = absurd (cc e)
noted_by false true a b e = absurd (cc e)
noted_by false false true b e = refl
noted_by false false false b e = refl

pub noted_more : (key k : List ℕ) (w : Write) (ws : List Write) (new old base : Bool) → new ≡ cond (is_eq (slice_cmp nat_cmp k key)) true old → k ≡ w.key → old ≡ (is_written_in key ws || base)
    → new ≡ (is_written_in key (ws ++ w ∷ []) || base)
noted_more key k w ws new old base is same before =
    let here : is_eq (slice_cmp nat_cmp k key) ≡ bytes_eq key w.key = is_eq-slice_cmp k key ∙ (nat_list_eq_equiv.symm k key ∙ ap (bytes_eq key) same) in
    is ∙ (ap (λ b. cond (is_eq (slice_cmp nat_cmp k key)) true b) before
    ∙ (noted_by (is_eq (slice_cmp nat_cmp k key)) (bytes_eq key w.key) (is_written_in key ws) base here
    ∙ ap (λ b. b || base) (sym (list_any-append (λ v. bytes_eq key v.key) ws (w ∷ [])))))

pub kept_some : (now kept : List Write) (b : Bool) → b ≡ (length now == 0) → now ≡ kept → b ≡ false → length kept ≡ 0 → ⊥
kept_some now kept b is same some none =
    let zero : length now ≡ 0 = ap length same ∙ none in
    let all : (length now == 0) ≡ true = grind (arith, nat_tests, zero) in
    absurd (cc (is, some, all))

pub kept_none : (now kept : List Write) (b : Bool) → b ≡ (length now == 0) → now ≡ kept → b ≡ true → length kept ≡ 0
kept_none now kept b is same none =
    let all : (length now == 0) ≡ true = sym is ∙ none in
    let zero : length now ≡ 0 = grind (arith, nat_tests, all) in
    ap length (sym same) ∙ zero
