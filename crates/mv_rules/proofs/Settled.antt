-- What the records stand for once a branch's fate is decided.
use Rattle.std.proofs.Common.{◌≡◌, ℕ, Bool, true, false, List, [], ◌∷◌, length, Option, None, Some, refl, sym, ◌∙◌, arith}
use Rattle.std.specs.Prelude.{if◌then◌else◌, ◌==◌}
use Rattle.std.specs.List.{AllByRecursion as Each}
use Rattle.std.proofs.lemmas.Bool.Decides.{nat_tests}
use Rattle.mv_chain.specs.declared.version.Version.{Version}
use Rattle.mv_chain.specs.declared.fate.Fate.{Fate}
use Rattle.mv_chain.specs.Accesses.{Written, decided, has_undecided, IsUndecided}
use Rattle.mv_chain.specs.Chain.{fresh, StandsFor as ChainStandsFor}
use Rattle.mv_chain.proofs.Seen.{seen_untouched, undecided_decided, still_undecided}
use Rattle.mv_rules.specs.declared.records.Records.{Records}
use Rattle.mv_rules.specs.Accesses.{Accesses, undecided_keys}
use Rattle.mv_rules.specs.Own.{is_listed}
use Rattle.mv_rules.specs.Records.{StandsFor, index_of, chain_at, chain_of_index, own_of}
use Rattle.mv_rules.specs.Steps.{SettlesListed}
use Rattle.mv_rules.proofs.Indices.{named_moved}

keys_decided : (t ts : ℕ) (f : Fate) (ws : List Written) → undecided_keys t (decided ts f ws) ≡ (if t == ts then 0 else undecided_keys t ws)
keys_decided t ts f [] = grind arith
keys_decided t ts f (w ∷ ws) = grind (arith, nat_tests, keys_decided t ts f ws, undecided_decided w.key t ts f ws)

pub stands_settled : (h : Accesses) (r r2 : Records) (ts : ℕ) (fate : Fate) → IsUndecided ts h.writes → ((q : List ℕ) → index_of q r2 ≡ index_of q r) → SettlesListed ts fate (own_of ts r) r.pool r.chains r2.pool r2.chains → ((t : ℕ) → own_of t r2 ≡ (if t == ts then [] else own_of t r)) → StandsFor h r → StandsFor (record h { writes = decided ts fate h.writes }) r2
stands_settled h r r2 ts fate u indices settled lists s =
    record {
      chains = record {
        chains = λ q. chain q (index_of q r) refl;
        within = λ q i e. settled.stands i ∙ s.chains.within q i (sym (indices q) ∙ e);
        apart = λ a b i e f. s.chains.apart a b i (sym (indices a) ∙ e) (sym (indices b) ∙ f);
        held = settled.held;
      };
      lists = record {
        listed = λ t q i e. rw (lists t, undecided_decided q t ts fate h.writes) (listed t q i (sym (indices q) ∙ e) (t == ts));
        unindexed = λ t q e. rw (undecided_decided q t ts fate h.writes, s.lists.unindexed t q (sym (indices q) ∙ e)) (grind arith);
        named = λ t. rw lists (named t (t == ts));
        count = λ t. rw (lists t, keys_decided t ts fate h.writes) (count t (t == ts));
      };
    }
  where
    untouched : (q : List ℕ) (vs : List Version) → has_undecided q ts h.writes ≡ false → ChainStandsFor q h.low h.writes h.reads vs → ChainStandsFor q h.low (decided ts fate h.writes) h.reads vs
    untouched q vs n c = record {
      seen = λ gone t up. c.seen gone t up ∙ sym (seen_untouched gone q t ts fate h.writes u n);
      own = λ gone t g o. c.own gone t g (still_undecided q t ts fate h.writes o).1 ∙ sym (seen_untouched gone q t ts fate h.writes u n);
      late = c.late;
      based = c.based;
    }

    chain : (q : List ℕ) (p : Option ℕ) → index_of q r ≡ p → ChainStandsFor q h.low (decided ts fate h.writes) h.reads (chain_of_index (index_of q r2) r2)
    chain q None e = rw (indices q, e) (untouched q fresh (s.lists.unindexed ts q e) (rw e at (s.chains.chains q)))
    chain q (Some i) e = rw (indices q, e) (at (is_listed i (own_of ts r)) refl)
      where
        at : (x : Bool) → is_listed i (own_of ts r) ≡ x → ChainStandsFor q h.low (decided ts fate h.writes) h.reads (chain_at i r2)
        at true l = settled.listed i l q h.low h.writes h.reads (rw e at (s.chains.chains q)) u
        at false l = rw (settled.others i l) (untouched q (chain_at i r) (sym (s.lists.listed ts q i e) ∙ l) (rw e at (s.chains.chains q)))

    listed : (t : ℕ) (q : List ℕ) (i : ℕ) → index_of q r ≡ Some i → (x : Bool) → is_listed i (if x then [] else own_of t r) ≡ (if x then false else has_undecided q t h.writes)
    listed t q i e true = refl
    listed t q i e false = s.lists.listed t q i e

    named : (t : ℕ) (x : Bool) → Each (λ o. index_of o.key r2 ≡ Some o.index) (if x then [] else own_of t r)
    named t true = tt
    named t false = named_moved r r2 (own_of t r) indices (s.lists.named t)

    count : (t : ℕ) (x : Bool) → length (if x then [] else own_of t r) ≡ (if x then 0 else undecided_keys t h.writes)
    count t true = refl
    count t false = s.lists.count t
