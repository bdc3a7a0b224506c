-- What the records stand for once one chain has changed.
use Rattle.std.proofs.Common.{◌≡◌, ℕ, ◌≤◌, true, false, List, [], ◌∷◌, ◌++◌, length, Option, Some, refl, sym, ap, subst, arith}
use Rattle.std.specs.Prelude.{is_some, IsSome, max, ◌==◌, if◌then◌else◌}
use Rattle.std.specs.BTreeMap.{BTreeMap}
use Rattle.slab.specs.Slab.{get as chain_in, with_value}
use Rattle.mv_chain.specs.declared.version.Version.{Version}
use Rattle.mv_chain.specs.declared.pool.Pool.{Pool}
use Rattle.mv_chain.specs.declared.chain.Chain.{Chain}
use Rattle.mv_chain.specs.Accesses.{Written, Answered, seen, is_late, AreWhole, IsUnsettled}
use Rattle.mv_chain.specs.Chain.{shows, is_marked, StandsFor as ChainStandsFor}
use Rattle.mv_chain.specs.Pool.{versions_of, IsKept, LeavesOthers}
use Rattle.mv_rules.specs.declared.records.Records.{Records}
use Rattle.mv_rules.specs.declared.own.Notes.{Notes}
use Rattle.mv_rules.specs.declared.answers.Got.{Got}
use Rattle.mv_rules.specs.declared.answers.Put.TheVariants.{Done}
use Rattle.mv_rules.specs.declared.verdict.Verdict.TheVariants.{Again, First}
use Rattle.mv_rules.specs.Accesses.{Accesses, reads_after, wrote}
use Rattle.mv_rules.specs.Held.{shown_in, Changes}
use Rattle.mv_rules.specs.Own.{own_in}
use Rattle.mv_rules.specs.Records.{StandsFor, index_of, chain_at, own_of}
use Rattle.mv_rules.specs.Steps.{IsRead, IsWritten}
use Rattle.mv_rules.specs.Verdict.{verdict_of}
use Rattle.mv_rules.proofs.Frames.{written_there, written_back}
use Rattle.mv_rules.proofs.Written.{put_again, put_first, IsPut}
use Rattle.mv_rules.proofs.PutBack.{put_back_again, put_back_first}
use Rattle.mv_rules.proofs.Indices.{stands_at, stands_get, lists_same}

abbrev pub with_chain : Records → ℕ → Pool → Chain → BTreeMap ℕ Notes → Records
with_chain r i pool c notes = record { alloc = r.alloc; indices = r.indices; chains = with_value r.chains i c; pool = pool; notes = notes }

module _ (h : Accesses) (r : Records) (key : List ℕ) (i : ℕ) (a b : Chain) (p2 : Pool) (notes : BTreeMap ℕ Notes) (s : StandsFor h r) (here : index_of key r ≡ Some i) (there : chain_in r.chains i ≡ Some a) (leaves : LeavesOthers r.pool a p2 b) (keeps : IsKept r.pool a → IsKept p2 b) where
  pub kept_at : IsKept r.pool a
  kept_at = s.chains.held.kept i a there

  pub changes_at : Changes i r.pool r.chains p2 (with_value r.chains i b)
  changes_at = written_back r.pool p2 r.chains i a b there leaves (keeps kept_at)

  pub still_there : IsSome (chain_in (with_value r.chains i b) i)
  still_there = ap is_some (written_there r.chains i a b there)

  pub before_at : chain_at i r ≡ versions_of r.pool a
  before_at = ap (shown_in r.pool) there

  pub after_at : chain_at i (with_chain r i p2 b notes) ≡ versions_of p2 b
  after_at = ap (shown_in p2) (written_there r.chains i a b there)

  stood : ChainStandsFor key h.low h.writes h.reads (versions_of r.pool a)
  stood = subst (ChainStandsFor key h.low h.writes h.reads) before_at (rw here at (s.chains.chains key))

  -- the chain stands for what it stood for
  chain_stands : ChainStandsFor key h.low h.writes h.reads (versions_of p2 b) → ((t : ℕ) → own_in t notes ≡ own_in t r.notes) → StandsFor h (with_chain r i p2 b notes)
  chain_stands c own = record {
    chains = stands_at h h r (with_chain r i p2 b notes) key i here (λ q. refl) changes_at still_there (subst (ChainStandsFor key h.low h.writes h.reads) (sym after_at) c) (λ q xs d t. t) s.chains;
    lists = lists_same h h r (with_chain r i p2 b notes) refl (λ q. refl) own s.lists;
  }

  pub alike_at : versions_of p2 b ≡ versions_of r.pool a → ((t : ℕ) → own_in t notes ≡ own_in t r.notes) → StandsFor h (with_chain r i p2 b notes)
  alike_at same own = chain_stands (subst (ChainStandsFor key h.low h.writes h.reads) (sym same) stood) own

  pub pruned_at : (low : ℕ) → AreWhole h.writes → low ≤ h.low
      → ((k : List ℕ) (before : ℕ) (ws : List Written) (rs : List Answered) → IsKept r.pool a → ChainStandsFor k before ws rs (versions_of r.pool a) → AreWhole ws → ChainStandsFor k (max before low) ws rs (versions_of p2 b))
      → ((t : ℕ) → own_in t notes ≡ own_in t r.notes) → StandsFor h (with_chain r i p2 b notes)
  pruned_at low whole le prunes own =
      let same : max h.low low ≡ h.low = omega arith in
      chain_stands (subst (λ (n : ℕ). ChainStandsFor key n h.writes h.reads (versions_of p2 b)) same (prunes key h.low h.writes h.reads kept_at stood whole)) own

  pub read_at : (ts : ℕ) (res : Got) → h.low ≤ ts → IsRead res ts (versions_of r.pool a) (versions_of p2 b) → ((t : ℕ) → own_in t notes ≡ own_in t r.notes)
      → StandsFor (record h { reads = reads_after res ts key (seen key ts h.writes).from h.reads }) (with_chain r i p2 b notes)
  read_at ts res le reads own = record {
    chains = stands_get h r (with_chain r i p2 b notes) key i ts res le s.chains here (λ q. refl) changes_at still_there (subst (λ (x : List Version). IsRead res ts x (chain_at i (with_chain r i p2 b notes))) (sym before_at) (subst (IsRead res ts (versions_of r.pool a)) (sym after_at) reads));
    lists = lists_same h _ r (with_chain r i p2 b notes) refl (λ q. refl) own s.lists;
  }

  -- one more write
  pub again_at : (ts n : ℕ) (value : Option (List ℕ)) → IsUnsettled ts h.low h.writes → n ≡ length (own_of ts r) → Again ≡ verdict_of ((shows ts (versions_of r.pool a)).from == ts) n (is_marked ts (versions_of r.pool a)) → IsWritten ts value (versions_of r.pool a) (versions_of p2 b) → ((t : ℕ) → own_in t notes ≡ own_in t r.notes)
      → IsPut Done ts key value h (with_chain r i p2 b notes)
  again_at ts n value u many e written own =
      put_again h r key i ts n (versions_of r.pool a) u s here (sym before_at) many value (with_chain r i p2 b notes) e (λ q. refl) changes_at still_there (subst (IsWritten ts value (versions_of r.pool a)) (sym after_at) written) own

  pub first_at : (ts n : ℕ) (value : Option (List ℕ)) → IsUnsettled ts h.low h.writes → n ≡ length (own_of ts r) → First ≡ verdict_of ((shows ts (versions_of r.pool a)).from == ts) n (is_marked ts (versions_of r.pool a)) → IsWritten ts value (versions_of r.pool a) (versions_of p2 b)
      → ((t : ℕ) → own_in t notes ≡ (if t == ts then own_in ts r.notes ++ (record { key = key; index = i }) ∷ [] else own_in t r.notes))
      → IsPut Done ts key value h (with_chain r i p2 b notes)
  first_at ts n value u many e written own =
      put_first h r key i ts n (versions_of r.pool a) u s here (sym before_at) many value (with_chain r i p2 b notes) e (λ q. refl) changes_at still_there (subst (IsWritten ts value (versions_of r.pool a)) (sym after_at) written) own

  pub back_again_at : (ts : ℕ) (value : Option (List ℕ)) → IsUnsettled ts h.low h.writes → is_late key ts h.reads ≡ false → ((shows ts (versions_of r.pool a)).from == ts) ≡ true → IsWritten ts value (versions_of r.pool a) (versions_of p2 b) → ((t : ℕ) → own_in t notes ≡ own_in t r.notes)
      → StandsFor (record h { writes = wrote ts key value ∷ h.writes }) (with_chain r i p2 b notes)
  back_again_at ts value u timely e written own =
      put_back_again h r key i ts (versions_of r.pool a) u s here (sym before_at) timely value (with_chain r i p2 b notes) e (λ q. refl) changes_at still_there (subst (IsWritten ts value (versions_of r.pool a)) (sym after_at) written) own

  pub back_first_at : (ts : ℕ) (value : Option (List ℕ)) → IsUnsettled ts h.low h.writes → is_late key ts h.reads ≡ false → ((shows ts (versions_of r.pool a)).from == ts) ≡ false → IsWritten ts value (versions_of r.pool a) (versions_of p2 b)
      → ((t : ℕ) → own_in t notes ≡ (if t == ts then own_in ts r.notes ++ (record { key = key; index = i }) ∷ [] else own_in t r.notes))
      → StandsFor (record h { writes = wrote ts key value ∷ h.writes }) (with_chain r i p2 b notes)
  back_first_at ts value u timely e written own =
      put_back_first h r key i ts (versions_of r.pool a) u s here (sym before_at) timely value (with_chain r i p2 b notes) e (λ q. refl) changes_at still_there (subst (IsWritten ts value (versions_of r.pool a)) (sym after_at) written) own
