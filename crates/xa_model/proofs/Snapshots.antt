-- A snapshot comes to what it was made of.
use Rattle.std.proofs.Common.{◌≡◌, ℕ, ◌+◌, ◌<◌, ◌==◌, Bool, true, false, not, ◌&&◌, Ok, List, [], ◌∷◌, ◌++◌, refl, ap, sym, subst, ◌∙◌, append_assoc, append-nil, arith}
use Rattle.std.specs.Prelude.{map, nat_lt}
use Rattle.std.specs.List.{AllByRecursion, list_all}
use Rattle.std.specs.Ordering.{is_lt}
use Rattle.std.proofs.lemmas.Bool.{not-true}
use Rattle.std.proofs.lemmas.Bool.Decides.{nat_tests}
use Rattle.xa_xid.specs.Triple.{xid_cmp, xid_eq}
use Rattle.xa_record.specs.declared.record.Record.TheVariants.{Opened}
use Rattle.xa_model.specs.State.{Decided}
use Rattle.xa_model.specs.Durable.{Durable, CommittedBranch, PreparedBranch, Pairwise, AreLast, commit, commits_before, prepares_before, named_before, named_apart, is_prepared, is_past, last_writes}
use Rattle.xa_model.specs.Fold.{Reading, fold_from, unread, is_used, base, held, known}
use Rattle.xa_model.specs.Laws.Durable.{SnapshotFolds}
use Rattle.xa_model.proofs.Inserts.{all_imply, all_both, all_pass, none_passes, insert_last, pairwise_before, pairwise_behind}
use Rattle.xa_model.proofs.LastWrites.{last_same, last_front}
use Rattle.xa_model.proofs.Folds.{step}

-- what was read of a snapshot
abbrev durable_of : ℕ → List CommittedBranch → List PreparedBranch → List Decided → Durable
durable_of boot cs ps ds = record { boot = boot; committed = cs; prepared = ps; decided = ds }

abbrev part : ℕ → List CommittedBranch → List PreparedBranch → List Decided → List ℕ → Reading
part boot cs ps ds ts = record { durable = durable_of boot cs ps ds; is_snapshot = true; timestamps = ts }

one_behind : {A : Type 0} (xs : List A) (y : A) (ys : List A) → (xs ++ y ∷ []) ++ ys ≡ xs ++ y ∷ ys
one_behind xs y ys = append_assoc xs (y ∷ []) ys

all_three : (a b c : Bool) → a ≡ true → b ≡ false → c ≡ true → (a && not b && c) ≡ true
all_three a b c e f g = rw (e, f, g) refl

-- the XIDs that the operator completed

knowns : (boot : ℕ) (cs : List CommittedBranch) (ps : List PreparedBranch) (done rest : List Decided) (ts : List ℕ) (i : ℕ)
    → Pairwise named_before (done ++ rest) → AllByRecursion (λ e. is_prepared e.xid ps ≡ false) rest
    → fold_from i (part boot cs ps done ts) (map known rest) ≡ Ok (durable_of boot cs ps (done ++ rest))
knowns boot cs ps done [] ts i order apart = ap (λ (ds : List Decided). Ok (durable_of boot cs ps ds)) (sym (append-nil done))
knowns boot cs ps done (e ∷ rest) ts i order apart =
    let above = pairwise_before named_before done e rest order in
    let order : Pairwise named_before ((done ++ e ∷ []) ++ rest) = subst (Pairwise named_before) (sym (one_behind done e rest)) order in
    step (known e) (part boot cs ps done ts) (part boot cs ps (done ++ e ∷ []) ts) i (map known rest) (durable_of boot cs ps (done ++ e ∷ rest))
    (all_three true (is_prepared e.xid ps) (list_all (λ d. is_lt (xid_cmp d.xid e.xid)) done) refl apart.0 (all_pass (λ d. is_lt (xid_cmp d.xid e.xid)) done above))
    (ap (λ (ds : List Decided). part boot cs ps ds ts) (insert_last named_before e done above))
    (knowns boot cs ps (done ++ e ∷ []) rest ts (i + 1) order apart.1
    ∙ ap (λ (ds : List Decided). Ok (durable_of boot cs ps ds)) (one_behind done e rest))

-- the prepared branches

record ArePrepared (boot : ℕ) (done rest : List PreparedBranch) (ds : List Decided) (ts : List ℕ) : Type 0 where
  order : Pairwise prepares_before (done ++ rest)
  names : Pairwise named_apart (done ++ rest)
  past : AllByRecursion (λ p. is_past boot p.timestamp ≡ true) rest
  fresh : AllByRecursion (λ p. is_used p.timestamp ts ≡ false) rest
  decided : Pairwise named_before ds
  apart : AllByRecursion (λ e. is_prepared e.xid (done ++ rest) ≡ false) ds

still_fresh : (t u : ℕ) (ts : List ℕ) → nat_lt t u ≡ true → is_used u ts ≡ false → is_used u (t ∷ ts) ≡ false
still_fresh t u ts less fresh = let apart : (t == u) ≡ false = grind (arith, nat_tests) in rw (apart, fresh) refl

held_fits : (a b c e : Bool) → a ≡ true → b ≡ false → c ≡ true → e ≡ false → (true && true && a && not b && c && (not e && not false)) ≡ true
held_fits a b c e h k l m = rw (h, k, l, m) refl

helds : (boot : ℕ) (cs : List CommittedBranch) (done rest : List PreparedBranch) (ds : List Decided) (ts : List ℕ) (i : ℕ) → ArePrepared boot done rest ds ts
    → fold_from i (part boot cs done [] ts) (map held rest ++ map known ds) ≡ Ok (durable_of boot cs (done ++ rest) ds)
helds boot cs done [] ds ts i h =
    let same : done ++ [] ≡ done = append-nil done in
    let apart : AllByRecursion (λ e. is_prepared e.xid done ≡ false) ds = subst (λ (ps : List PreparedBranch). AllByRecursion (λ e. is_prepared e.xid ps ≡ false) ds) same h.apart in
    knowns boot cs done [] ds ts i h.decided apart ∙ ap (λ (ps : List PreparedBranch). Ok (durable_of boot cs ps ds)) (sym same)
helds boot cs done (p ∷ rest) ds ts i h =
    let below = pairwise_before prepares_before done p rest h.order in
    let others = pairwise_before named_apart done p rest h.names in
    let back = sym (one_behind done p rest) in
    let unknown : is_prepared p.xid done ≡ false =
    none_passes (λ q. xid_eq q.xid p.xid) done (all_imply (λ q. named_apart q p ≡ true) (λ q. xid_eq q.xid p.xid ≡ false) (λ q e. not-true (xid_eq q.xid p.xid) e) done others) in
    let next : ArePrepared boot (done ++ p ∷ []) rest ds (p.timestamp ∷ ts) = record {
      order = subst (Pairwise prepares_before) back h.order;
      names = subst (Pairwise named_apart) back h.names;
      past = h.past.1;
      fresh = all_both (λ q. prepares_before p q ≡ true) (λ q. is_used q.timestamp ts ≡ false) (λ q. is_used q.timestamp (p.timestamp ∷ ts) ≡ false)
          (λ q less fresh. still_fresh p.timestamp q.timestamp ts less fresh) rest (pairwise_behind prepares_before done p rest h.order) h.fresh.1;
      decided = h.decided;
      apart = subst (λ (ps : List PreparedBranch). AllByRecursion (λ e. is_prepared e.xid ps ≡ false) ds) back h.apart;
    } in
    step (held p) (part boot cs done [] ts) (part boot cs (done ++ p ∷ []) [] (p.timestamp ∷ ts)) i (map held rest ++ map known ds) (durable_of boot cs (done ++ p ∷ rest) ds)
    (held_fits (is_past boot p.timestamp) (is_used p.timestamp ts) (list_all (λ q. nat_lt q.timestamp p.timestamp) done) (is_prepared p.xid done)
    h.past.0 h.fresh.0 (all_pass (λ q. nat_lt q.timestamp p.timestamp) done below) unknown)
    (ap (λ (ps : List PreparedBranch). part boot cs ps [] (p.timestamp ∷ ts)) (insert_last prepares_before p done below))
    (helds boot cs (done ++ p ∷ []) rest ds (p.timestamp ∷ ts) (i + 1) next
    ∙ ap (λ (ps : List PreparedBranch). Ok (durable_of boot cs ps ds)) (one_behind done p rest))

-- the committed branches

record AreCommitted (boot : ℕ) (done rest : List CommittedBranch) (ps : List PreparedBranch) (ts : List ℕ) : Type 0 where
  order : Pairwise commits_before (done ++ rest)
  last : AreLast (done ++ rest)
  past : AllByRecursion (λ c. is_past boot c.timestamp ≡ true) rest
  above : AllByRecursion (λ c. list_all (λ u. nat_lt u c.timestamp) ts ≡ true) rest
  apart : AllByRecursion (λ c. AllByRecursion (λ p. (c.timestamp == p.timestamp) ≡ false) ps) rest

still_above : (t u : ℕ) (ts : List ℕ) → nat_lt t u ≡ true → list_all (λ v. nat_lt v u) ts ≡ true → list_all (λ v. nat_lt v u) (t ∷ ts) ≡ true
still_above t u ts less above = rw (less, above) refl

base_fits : (a b : Bool) → a ≡ true → b ≡ true → (true && true && true && a && b) ≡ true
base_fits a b h k = rw (h, k) refl

commit_last : (c : CommittedBranch) (done rest : List CommittedBranch) → AllByRecursion (λ b. commits_before b c ≡ true) done → AreLast (done ++ c ∷ rest) → commit c done ≡ done ++ c ∷ []
commit_last c done rest below last =
    ap last_writes (insert_last commits_before c done below) ∙ last_same (done ++ c ∷ []) (last_front (done ++ c ∷ []) rest (subst AreLast (sym (one_behind done c rest)) last))

bases : (boot : ℕ) (done rest : List CommittedBranch) (ps : List PreparedBranch) (ds : List Decided) (ts : List ℕ) (i : ℕ) → AreCommitted boot done rest ps ts → ArePrepared boot [] ps ds ts
    → fold_from i (part boot done [] [] ts) (map base rest ++ (map held ps ++ map known ds)) ≡ Ok (durable_of boot (done ++ rest) ps ds)
bases boot done [] ps ds ts i h k = helds boot done [] ps ds ts i k ∙ ap (λ (cs : List CommittedBranch). Ok (durable_of boot cs ps ds)) (sym (append-nil done))
bases boot done (c ∷ rest) ps ds ts i h k =
    let below = pairwise_before commits_before done c rest h.order in
    let back = sym (one_behind done c rest) in
    let next : AreCommitted boot (done ++ c ∷ []) rest ps (c.timestamp ∷ ts) = record {
      order = subst (Pairwise commits_before) back h.order;
      last = subst AreLast back h.last;
      past = h.past.1;
      above = all_both (λ b. commits_before c b ≡ true) (λ b. list_all (λ u. nat_lt u b.timestamp) ts ≡ true) (λ b. list_all (λ u. nat_lt u b.timestamp) (c.timestamp ∷ ts) ≡ true)
          (λ b less above. still_above c.timestamp b.timestamp ts less above) rest (pairwise_behind commits_before done c rest h.order) h.above.1;
      apart = h.apart.1;
    } in
    let later : ArePrepared boot [] ps ds (c.timestamp ∷ ts) = record {
      order = k.order;
      names = k.names;
      past = k.past;
      fresh = all_both (λ p. (c.timestamp == p.timestamp) ≡ false) (λ p. is_used p.timestamp ts ≡ false) (λ p. is_used p.timestamp (c.timestamp ∷ ts) ≡ false)
          (λ p other fresh. rw (other, fresh) refl) ps h.apart.0 k.fresh;
      decided = k.decided;
      apart = k.apart;
    } in
    step (base c) (part boot done [] [] ts) (part boot (done ++ c ∷ []) [] [] (c.timestamp ∷ ts)) i (map base rest ++ (map held ps ++ map known ds)) (durable_of boot (done ++ c ∷ rest) ps ds)
    (base_fits (is_past boot c.timestamp) (list_all (λ u. nat_lt u c.timestamp) ts) h.past.0 h.above.0)
    (ap (λ (cs : List CommittedBranch). part boot cs [] [] (c.timestamp ∷ ts)) (commit_last c done rest below h.last))
    (bases boot (done ++ c ∷ []) rest ps ds (c.timestamp ∷ ts) (i + 1) next later
    ∙ ap (λ (cs : List CommittedBranch). Ok (durable_of boot cs ps ds)) (one_behind done c rest))

-- the whole

past_later : (a b t : ℕ) → a < b → is_past (a + 1) t ≡ true → is_past b t ≡ true
past_later a b t less e = grind (arith, nat_tests)

all_true : {A : Type 0} (P : A → Type 0) → ((x : A) → P x) → (xs : List A) → AllByRecursion P xs
all_true P f [] = tt
all_true P f (x ∷ xs) = (f x, all_true P f xs)

pub snapshot_folds : SnapshotFolds
snapshot_folds d boot h less =
    let cs : AreCommitted boot [] d.committed d.prepared [] = record {
      order = h.committed;
      last = h.last;
      past = all_imply (λ c. is_past (d.boot + 1) c.timestamp ≡ true) (λ c. is_past boot c.timestamp ≡ true) (λ c e. past_later d.boot boot c.timestamp less e) d.committed h.committed_past;
      above = all_true (λ c. list_all (λ u. nat_lt u c.timestamp) [] ≡ true) (λ c. refl) d.committed;
      apart = h.apart;
    } in
    let ps : ArePrepared boot [] d.prepared d.decided [] = record {
      order = h.prepared;
      names = h.distinct;
      past = all_imply (λ p. is_past (d.boot + 1) p.timestamp ≡ true) (λ p. is_past boot p.timestamp ≡ true) (λ p e. past_later d.boot boot p.timestamp less e) d.prepared h.prepared_past;
      fresh = all_true (λ p. is_used p.timestamp [] ≡ false) (λ p. refl) d.prepared;
      decided = h.decided;
      apart = h.unknown;
    } in
    let first : nat_lt 0 boot ≡ true = grind (arith, nat_tests) in
    step (Opened boot) unread (part boot [] [] [] []) 0 (map base d.committed ++ (map held d.prepared ++ map known d.decided)) (durable_of boot d.committed d.prepared d.decided)
    first refl (bases boot [] d.committed d.prepared d.decided [] 1 cs ps)
