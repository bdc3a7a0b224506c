-- What is listed of the maps, and the records of a snapshot of them.
use Rattle.std.proofs.Common.{◌≡◌, ℕ, Bool, true, false, cond, List, [], ◌∷◌, ◌++◌, map, Option, refl, ap, sym, ◌∙◌}
use Rattle.std.specs.Prelude.{filter, fold}
use Rattle.std.specs.BTreeSet.{insert_key}
use Rattle.std.specs.Map.{keys_of, values_of}
use Rattle.std.proofs.lemmas.List.Sums.{fold-append}
use Rattle.xa_codes.specs.declared.direction.Direction.{Direction}
use Rattle.xa_codes.specs.declared.write.Write.{Write}
use Rattle.xa_xid.specs.Triple.{Triple, xid_cmp}
use Rattle.xa_record.specs.Spelling.{spelled}
use Rattle.xa_record.specs.declared.record.Record.TheVariants.{Opened}
use Rattle.xa_model.specs.Durable.{Durable}
use Rattle.xa_model.specs.Fold.{base, held, known, snapshot}
use Rattle.xa_model.specs.Listed.{in_order, is_above}
use Rattle.xa_model.proofs.InOrder.{above_in_order}
use Rattle.xa_recovery.specs.declared.durable.InDoubt.{InDoubt}
use Rattle.xa_recovery.specs.Durable.{as_committed, as_prepared, as_decided}
use Rattle.xa_recovery.specs.Snapshots.{base_body, held_body, known_body}
use Rattle.xa_recovery.proofs.Loops.{joined, mapped_both}

filtered_by : (c : Bool) (x : Triple) (xs ys zs : List Triple) → zs ≡ xs ++ ys → cond c (x ∷ zs) zs ≡ cond c (x ∷ xs) xs ++ ys
filtered_by true x xs ys zs e = ap (λ us. x ∷ us) e
filtered_by false x xs ys zs e = e

filtered_both : (p : Triple → Bool) (xs ys : List Triple) → filter p (xs ++ ys) ≡ filter p xs ++ filter p ys
filtered_both p [] ys = refl
filtered_both p (x ∷ xs) ys = filtered_by (p x) x (filter p xs) (filter p ys) (filter p (xs ++ ys)) (filtered_both p xs ys)

prepared_names : (ps : List (ℕ × InDoubt)) → map (λ b. b.xid) (values_of ps) ≡ map (λ q. q.xid) (map as_prepared ps)
prepared_names [] = refl
prepared_names (e ∷ ps) = ap (λ xs. e.1.xid ∷ xs) (prepared_names ps)

decided_names : (ds : List (Triple × Direction)) → keys_of ds ≡ map (λ e. e.xid) (map as_decided ds)
decided_names [] = refl
decided_names (e ∷ ds) = ap (λ xs. e.0 ∷ xs) (decided_names ds)

-- both maps in turn
pub listed_maps : (after : Option Triple) (ps : List (ℕ × InDoubt)) (ds : List (Triple × Direction)) (none some all : List Triple) → none ≡ []
    → some ≡ fold (insert_key xid_cmp) none (filter (is_above after) (map (λ b. b.xid) (values_of ps)))
    → all ≡ fold (insert_key xid_cmp) some (filter (is_above after) (keys_of ds))
    → all ≡ filter (is_above after) (in_order (map (λ q. q.xid) (map as_prepared ps) ++ map (λ e. e.xid) (map as_decided ds)))
listed_maps after ps ds none some all e f g =
    let p = is_above after in
    let xs = map (λ (b : InDoubt). b.xid) (values_of ps) in
    let ys = keys_of ds in
    g ∙ (ap (λ zs. fold (insert_key xid_cmp) zs (filter p ys)) (f ∙ ap (λ zs. fold (insert_key xid_cmp) zs (filter p xs)) e)
    ∙ (sym (fold-append (insert_key xid_cmp) [] (filter p xs) (filter p ys))
    ∙ (ap (fold (insert_key xid_cmp) []) (sym (filtered_both p xs ys))
    ∙ (sym (above_in_order after (xs ++ ys))
    ∙ (ap (λ zs. filter p (in_order (zs ++ ys))) (prepared_names ps)
    ∙ ap (λ zs. filter p (in_order (map (λ q. q.xid) (map as_prepared ps) ++ zs))) (decided_names ds))))))

committed_bodies : (es : List (ℕ × List Write)) → map spelled (map base (map as_committed es)) ≡ map base_body es
committed_bodies [] = refl
committed_bodies (e ∷ es) = ap (λ bs. base_body e ∷ bs) (committed_bodies es)

prepared_bodies : (es : List (ℕ × InDoubt)) → map spelled (map held (map as_prepared es)) ≡ map held_body es
prepared_bodies [] = refl
prepared_bodies (e ∷ es) = ap (λ bs. held_body e ∷ bs) (prepared_bodies es)

decided_bodies : (es : List (Triple × Direction)) → map spelled (map known (map as_decided es)) ≡ map known_body es
decided_bodies [] = refl
decided_bodies (e ∷ es) = ap (λ bs. known_body e ∷ bs) (decided_bodies es)

-- one after another
pub bodies_are : (boot n : ℕ) (cs : List (ℕ × List Write)) (ps : List (ℕ × InDoubt)) (ds : List (Triple × Direction)) (none opened one two all : List (List ℕ)) → none ≡ []
    → opened ≡ none ++ spelled (Opened boot) ∷ []
    → one ≡ opened ++ map base_body cs
    → two ≡ one ++ map held_body ps
    → all ≡ two ++ map known_body ds
    → all ≡ map spelled (snapshot (record { boot = n; committed = map as_committed cs; prepared = map as_prepared ps; decided = map as_decided ds }) boot)
bodies_are boot n cs ps ds none opened one two all e f g h k =
    let bs = map base_body cs in
    let hs = map held_body ps in
    let ks = map known_body ds in
    let start : opened ≡ spelled (Opened boot) ∷ [] = f ∙ ap (λ xs. xs ++ spelled (Opened boot) ∷ []) e in
    let three : all ≡ ((spelled (Opened boot) ∷ [] ++ bs) ++ hs) ++ ks = k ∙ ap (λ xs. xs ++ ks) (h ∙ ap (λ xs. xs ++ hs) (g ∙ ap (λ xs. xs ++ bs) start)) in
    let parts : map spelled (map base (map as_committed cs) ++ (map held (map as_prepared ps) ++ map known (map as_decided ds))) ≡ bs ++ (hs ++ ks) =
    mapped_both spelled (map base (map as_committed cs)) (map held (map as_prepared ps) ++ map known (map as_decided ds))
    ∙ (ap (λ xs. xs ++ map spelled (map held (map as_prepared ps) ++ map known (map as_decided ds))) (committed_bodies cs)
    ∙ ap (λ xs. bs ++ xs) (mapped_both spelled (map held (map as_prepared ps)) (map known (map as_decided ds))
    ∙ (ap (λ xs. xs ++ map spelled (map known (map as_decided ds))) (prepared_bodies ps) ∙ ap (λ xs. hs ++ xs) (decided_bodies ds)))) in
    three ∙ (ap (λ xs. spelled (Opened boot) ∷ xs) (joined bs hs ks) ∙ sym (ap (λ xs. spelled (Opened boot) ∷ xs) parts))

-- of what lasts, by its parts
pub of_parts : (d : Durable) (boot : ℕ) (cs : List (ℕ × List Write)) (ps : List (ℕ × InDoubt)) (ds : List (Triple × Direction))
    → map as_committed cs ≡ d.committed → map as_prepared ps ≡ d.prepared → map as_decided ds ≡ d.decided
    → map spelled (snapshot (record { boot = d.boot; committed = map as_committed cs; prepared = map as_prepared ps; decided = map as_decided ds }) boot) ≡ map spelled (snapshot d boot)
of_parts d boot cs ps ds committed prepared decided = rw (committed, prepared, decided) refl
