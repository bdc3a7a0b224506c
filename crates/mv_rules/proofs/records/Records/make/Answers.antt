use Rattle.std.proofs.Common.{rules, ap, sym, ◌∙◌, ◌≡◌, refl, None, Some}
use Rattle.std.specs.Prelude.{is_some}
use Rattle.slab.specs.Slab.{get as chain_in, Updates, SameValues}
use Rattle.mv_rules.specs.declared.records.Records.{Records}
use Rattle.mv_rules.specs.Held.{shown_in}
use Rattle.mv_rules.proofs.Frames.{added_there, reserved_same, updates_before, nothing_left}
use Rattle.mv_rules.proofs.Indices.{found_at, found_inserted, stands_added, lists_added, stands_alike, IsAdded}
use Rattle.mv_rules.proofs.Forgotten.{found_back}
use Rattle.mv_chain.proofs.Frames.{on_err}
use Rattle.mv_rules.proofs.Tidied.{keeps_alike, kept_added}
use Rattle.mv_rules.proofs.records.Records.make.Goals as goal

pub returns-in_err-reserve-clause-stands : goal.returns-in_err-reserve-clause-stands
returns-in_err-reserve-clause-stands c =
    λ h s none. stands_alike h c.args.self.now _ (λ q. refl) (reserved_same c.args.self.now.chains c.reserve.new.self _ c.reserve.ensures.rest_kept) (nothing_left c.args.self.now.pool) (λ t. refl) s

pub returns-in_err-insert-clause-stands : goal.returns-in_err-insert-clause-stands
returns-in_err-insert-clause-stands c =
    λ h s none. stands_alike h c.args.self.now _ (λ q. ap (λ es. found_at q es) c.in_err-insert.ensures.err) (reserved_same c.args.self.now.chains c.reserve.new.self _ c.reserve.ensures.rest_kept) (nothing_left c.args.self.now.pool) (λ t. refl) s

-- the records with the chain that is made
abbrev made : goal.After-insert_reserved → Records
made c = record { alloc = c.args.self.now.alloc; indices = c.insert.new.self; chains = c.insert_reserved.new.self; pool = c.new.new.pool; notes = c.args.self.now.notes }

added : (c : goal.After-insert_reserved) → IsAdded c.args.self.now (made c) c.args.key.now c.insert_reserved.result
added c =
    let copied : c.in_ok-copy.copy.items ≡ c.args.key.now = search rules in
    let same : SameValues c.args.self.now.chains c.reserve.new.self = reserved_same c.args.self.now.chains c.reserve.new.self _ c.reserve.ensures.rest_kept in
    let vacant : chain_in c.args.self.now.chains c.insert_reserved.result ≡ None = sym (same c.insert_reserved.result) ∙ c.insert_reserved.ensures.was_vacant in
    let updates : Updates c.args.self.now.chains c.insert_reserved.new.self c.insert_reserved.result (Some c.in-Ok.chain) = updates_before c.args.self.now.chains c.reserve.new.self c.insert_reserved.new.self c.insert_reserved.result (Some c.in-Ok.chain) same c.insert_reserved.ensures.updates in
    let index : c.vacant_key-i.result ≡ c.insert_reserved.result = c.vacant_key-i.ensures.value ∙ sym c.insert_reserved.ensures.key in
    record {
      vacant = vacant;
      change = added_there c.args.self.now.pool c.new.new.pool c.args.self.now.chains c.insert_reserved.new.self c.insert_reserved.result c.in-Ok.chain vacant updates c.in-Ok.ensures.others c.in-Ok.ensures.kept;
      stands = ap is_some updates.changed;
      at_new = ap (shown_in c.new.new.pool) updates.changed ∙ c.in-Ok.ensures.base;
      found = λ q. rw (← copied) (ap (λ es. found_at q es) c.in_ok-insert.ensures.entries ∙ (found_inserted q c.in_ok-copy.copy c.vacant_key-i.result c.args.self.now.indices.entries ∙ rw index refl));
    }

pub returns-in-Ok-clause-stands : goal.returns-in-Ok-clause-stands
returns-in-Ok-clause-stands c =
    λ h s none. record {
      chains = stands_added h c.args.self.now (made c) c.args.key.now c.insert_reserved.result none (added c) s.chains;
      lists = lists_added h c.args.self.now (made c) c.args.key.now c.insert_reserved.result none (added c) (λ t. refl) s.chains s.lists;
    }

pub returns-in-Err-clause-stands : goal.returns-in-Err-clause-stands
returns-in-Err-clause-stands c =
    λ h s none.
    let copied : c.in_ok-copy.copy.items ≡ c.args.key.now = search rules in
    stands_alike h c.args.self.now _ (λ q. found_back q c.args.key.now c.in_ok-copy.copy c.vacant_key-i.result c.args.self.now.indices.entries c.insert.new.self.entries c.remove.new.self.entries c.in_ok-insert.ensures.entries c.remove.ensures.entries copied none c.remove.ensures.updates.1)
    (reserved_same c.args.self.now.chains c.reserve.new.self _ c.reserve.ensures.rest_kept) c.in-Err.ensures.err (λ t. refl) s

pub returns-in_err-reserve-clause-same : goal.returns-in_err-reserve-clause-same
returns-in_err-reserve-clause-same c =
    on_err c.from_residual-in_err-reserve.result (λ h s none. keeps_alike c.args.self.now (record c.args.self.now { chains = c.reserve.new.self }) (λ q. refl) (reserved_same c.args.self.now.chains c.reserve.new.self _ c.reserve.ensures.rest_kept) (nothing_left c.args.self.now.pool) s.chains.held)

pub returns-in_err-insert-clause-same : goal.returns-in_err-insert-clause-same
returns-in_err-insert-clause-same c =
    on_err c.from_residual-in_err-insert.result (λ h s none. keeps_alike c.args.self.now (record c.args.self.now { indices = c.insert.new.self; chains = c.reserve.new.self }) (λ q. ap (λ es. found_at q es) c.in_err-insert.ensures.err) (reserved_same c.args.self.now.chains c.reserve.new.self _ c.reserve.ensures.rest_kept) (nothing_left c.args.self.now.pool) s.chains.held)

pub returns-in-Ok-clause-made : goal.returns-in-Ok-clause-made
returns-in-Ok-clause-made c = λ h s none. kept_added h c.args.self.now (made c) c.args.key.now c.insert_reserved.result none (added c) s.chains

pub returns-in-Err-clause-same : goal.returns-in-Err-clause-same
returns-in-Err-clause-same c =
    λ h s none.
    let copied : c.in_ok-copy.copy.items ≡ c.args.key.now = search rules in
    keeps_alike c.args.self.now (record c.args.self.now { indices = c.remove.new.self; chains = c.reserve.new.self; pool = c.new.new.pool }) (λ q. found_back q c.args.key.now c.in_ok-copy.copy c.vacant_key-i.result c.args.self.now.indices.entries c.insert.new.self.entries c.remove.new.self.entries c.in_ok-insert.ensures.entries c.remove.ensures.entries copied none c.remove.ensures.updates.1)
    (reserved_same c.args.self.now.chains c.reserve.new.self _ c.reserve.ensures.rest_kept) c.in-Err.ensures.err s.chains.held
