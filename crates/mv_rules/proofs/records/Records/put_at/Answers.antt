use Rattle.std.proofs.Common.{◌≡◌, ◌<◌, refl, sym, ap, ℕ, List, Option, length, arith, Some}
use Rattle.std.specs.Prelude.{◌==◌}
use Rattle.mv_chain.specs.declared.look.Look.{Look}
use Rattle.mv_chain.specs.Accesses.{IsUnsettled}
use Rattle.mv_chain.specs.Chain.{shows, is_marked, installed}
use Rattle.mv_chain.specs.Pool.{versions_of}
use Rattle.mv_chain.proofs.Frames.{nothing_leaves}
use Rattle.xa_limits.specs.declared.TheConstants.{MOST_WRITES}
use Rattle.mv_rules.specs.declared.answers.Put.TheVariants.{Done}
use Rattle.mv_rules.specs.Accesses.{Accesses}
use Rattle.mv_rules.specs.Held.{shown_in}
use Rattle.mv_rules.specs.Records.{own_of, StandsFor, index_of}
use Rattle.mv_rules.proofs.Changed.{alike_at, again_at, first_at}
use Rattle.mv_rules.proofs.Written.{looked_at, put_refused, again_is, first_is, IsPut}
use Rattle.mv_rules.proofs.Exact.{puts_again, puts_first}
use Rattle.mv_rules.proofs.Changed.{with_chain}
use Rattle.mv_rules.proofs.Tidied.{kept_with, same_with}
use Rattle.mv_rules.proofs.Within.{keys_stay, keys_put, few_first}
use Rattle.mv_rules.proofs.records.Records.put_at.Goals as goal

pub returns-in_default-clause-stands : goal.returns-in_default-clause-stands
returns-in_default-clause-stands c =
    λ h s here u.
    let chain = c.index_mut-chain.result.now in
    alike_at h c.args.self.now c.args.key.now c.args.i chain chain c.args.self.now.pool c.args.self.now.notes s here c.index_mut-chain.ensures.value (nothing_leaves c.args.self.now.pool chain.slots.items) (λ k. k) refl (λ t. refl)

refused : (c : goal.Joined-value) (h : Accesses) → StandsFor h c.args.self.now → index_of c.args.key.now c.args.self.now ≡ Some c.args.i → IsUnsettled c.args.ts h.low h.writes
    → IsPut c.in-Refused.answer c.args.ts c.args.key.now c.args.value h c.args.self.now
refused c h s here u =
    let value : Option (List ℕ) = c.args.value in
    let k = s.chains.held.kept c.args.i c.index_mut-chain.result.now c.index_mut-chain.ensures.value in
    let verdict = looked_at _ c.look-look.result c.args.ts c.count-count.result _ (c.look-look.ensures.found k) c.in-Refused.ensures in
    put_refused h c.args.self.now c.args.key.now c.args.i c.args.ts c.count-count.result (versions_of c.args.self.now.pool c.index_mut-chain.result.now) u s here (ap (shown_in c.args.self.now.pool) (sym c.index_mut-chain.ensures.value)) c.count-count.ensures c.in-Refused.answer value verdict

pub returns-in-Refused-clause-answer : goal.returns-in-Refused-clause-answer
returns-in-Refused-clause-answer c = λ h s here u m. (refused c h s here u).0

pub returns-in-Refused-clause-stands : goal.returns-in-Refused-clause-stands
returns-in-Refused-clause-stands c =
    λ h s here u.
    let chain = c.index_mut-chain.result.now in
    alike_at _ c.args.self.now c.args.key.now c.args.i chain chain c.args.self.now.pool c.args.self.now.notes (refused c h s here u).1 here c.index_mut-chain.ensures.value (nothing_leaves c.args.self.now.pool chain.slots.items) (λ k. k) refl (λ t. refl)

again : (c : goal.In-Ok) (h : Accesses) → StandsFor h c.args.self.now → index_of c.args.key.now c.args.self.now ≡ Some c.args.i → IsUnsettled c.args.ts h.low h.writes
    → IsPut Done c.args.ts c.args.key.now c.args.value h (with_chain c.args.self.now c.args.i c.install_at.new.pool c.install_at.new.self c.args.self.now.notes)
again c h s here u =
    let value : Option (List ℕ) = c.args.value in
    let k = s.chains.held.kept c.args.i c.index_mut-chain.result.now c.index_mut-chain.ensures.value in
    let verdict = looked_at _ c.look-look.result c.args.ts c.count-count.result _ (c.look-look.ensures.found k) c.in-Again.ensures in
    again_at h c.args.self.now c.args.key.now c.args.i c.index_mut-chain.result.now c.install_at.new.self c.install_at.new.pool c.args.self.now.notes s here c.index_mut-chain.ensures.value c.install_at.ensures.others (λ kk. c.install_at.ensures.kept c.args.ts kk (c.look-look.ensures.found kk)) c.args.ts c.count-count.result value u c.count-count.ensures verdict
    (λ key low ws rs st un late. c.in-Ok.ensures.stands c.args.ts key low ws rs k (c.look-look.ensures.found k) st un late) (λ t. refl)

pub returns-in-Ok-clause-answer : goal.returns-in-Ok-clause-answer
returns-in-Ok-clause-answer c = λ h s here u m. (again c h s here u).0

pub returns-in-Ok-clause-stands : goal.returns-in-Ok-clause-stands
returns-in-Ok-clause-stands c = λ h s here u. (again c h s here u).1

pub returns-in-Err-clause-stands : goal.returns-in-Err-clause-stands
returns-in-Err-clause-stands c =
    λ h s here u.
    let k = s.chains.held.kept c.args.i c.index_mut-chain.result.now c.index_mut-chain.ensures.value in
    alike_at h c.args.self.now c.args.key.now c.args.i c.index_mut-chain.result.now c.install_at.new.self c.install_at.new.pool c.args.self.now.notes s here c.index_mut-chain.ensures.value c.install_at.ensures.others (λ kk. c.install_at.ensures.kept c.args.ts kk (c.look-look.ensures.found kk)) (c.in-Err.ensures.err k) (λ t. refl)

pub returns-in-Ok-add-clause-stands : goal.returns-in-Ok-add-clause-stands
returns-in-Ok-add-clause-stands c =
    λ h s here u.
    let value : Option (List ℕ) = c.args.value in
    let k = s.chains.held.kept c.args.i c.index_mut-chain.result.now c.index_mut-chain.ensures.value in
    let verdict = looked_at _ c.look-look.result c.args.ts c.count-count.result _ (c.look-look.ensures.found k) c.in-First.ensures in
    let at_ts : c.look-look.result.at ≡ c.args.ts = ap (λ (l : Look). l.at) (c.look-look.ensures.found k) in
    let noted = rw (c.in-Ok-from_slice.ensures.key, at_ts) at c.in-Ok-add.ensures.noted in
    (first_at h c.args.self.now c.args.key.now c.args.i c.index_mut-chain.result.now c.add.new.chain c.add.new.pool c.add.new.notes s here c.index_mut-chain.ensures.value c.add.ensures.others (λ kk. c.add.ensures.kept c.args.ts kk (c.look-look.ensures.found kk)) c.args.ts c.count-count.result value u c.count-count.ensures verdict
    (c.in-Ok-add.ensures.ok c.args.ts k (c.look-look.ensures.found k)) noted).1

pub returns-in-Err-add-clause-stands : goal.returns-in-Err-add-clause-stands
returns-in-Err-add-clause-stands c =
    λ h s here u.
    let k = s.chains.held.kept c.args.i c.index_mut-chain.result.now c.index_mut-chain.ensures.value in
    alike_at h c.args.self.now c.args.key.now c.args.i c.index_mut-chain.result.now c.add.new.chain c.add.new.pool c.add.new.notes s here c.index_mut-chain.ensures.value c.add.ensures.others (λ kk. c.add.ensures.kept c.args.ts kk (c.look-look.ensures.found kk)) (c.in-Err-add.ensures.err k) c.in-Err-add.ensures.unnoted

pub returns-in_default-clause-same : goal.returns-in_default-clause-same
returns-in_default-clause-same c =
    λ n h s here.
    let chain = c.index_mut-chain.result.now in
    same_with h c.args.self.now c.args.key.now c.args.i chain chain c.args.self.now.pool c.args.self.now.notes s here c.index_mut-chain.ensures.value (nothing_leaves c.args.self.now.pool chain.slots.items) (λ k. k) (λ k. refl)

pub returns-in-Refused-clause-same : goal.returns-in-Refused-clause-same
returns-in-Refused-clause-same c =
    λ n h s here.
    let chain = c.index_mut-chain.result.now in
    same_with h c.args.self.now c.args.key.now c.args.i chain chain c.args.self.now.pool c.args.self.now.notes s here c.index_mut-chain.ensures.value (nothing_leaves c.args.self.now.pool chain.slots.items) (λ k. k) (λ k. refl)

pub returns-in-Err-clause-same : goal.returns-in-Err-clause-same
returns-in-Err-clause-same c =
    λ n h s here.
    same_with h c.args.self.now c.args.key.now c.args.i c.index_mut-chain.result.now c.install_at.new.self c.install_at.new.pool c.args.self.now.notes s here c.index_mut-chain.ensures.value c.install_at.ensures.others (λ kk. c.install_at.ensures.kept c.args.ts kk (c.look-look.ensures.found kk)) c.in-Err.ensures.err

pub returns-in-Err-add-clause-same : goal.returns-in-Err-add-clause-same
returns-in-Err-add-clause-same c =
    λ n h s here.
    same_with h c.args.self.now c.args.key.now c.args.i c.index_mut-chain.result.now c.add.new.chain c.add.new.pool c.add.new.notes s here c.index_mut-chain.ensures.value c.add.ensures.others (λ kk. c.add.ensures.kept c.args.ts kk (c.look-look.ensures.found kk)) c.in-Err-add.ensures.err

pub returns-in-Ok-clause-puts : goal.returns-in-Ok-clause-puts
returns-in-Ok-clause-puts c =
    λ done h s here u.
    let r = c.args.self.now in
    let a = c.index_mut-chain.result.now in
    let value : Option (List ℕ) = c.args.value in
    let k = s.chains.held.kept c.args.i a c.index_mut-chain.ensures.value in
    let vs = versions_of r.pool a in
    let verdict = looked_at _ c.look-look.result c.args.ts c.count-count.result _ (c.look-look.ensures.found k) c.in-Again.ensures in
    puts_again h r (with_chain r c.args.i c.install_at.new.pool c.install_at.new.self r.notes) c.args.key.now c.args.i c.args.ts vs value u s here (ap (shown_in r.pool) (sym c.index_mut-chain.ensures.value))
    (kept_with h r c.args.key.now c.args.i a c.install_at.new.self c.install_at.new.pool r.notes s here c.index_mut-chain.ensures.value c.install_at.ensures.others (λ kk. c.install_at.ensures.kept c.args.ts kk (c.look-look.ensures.found kk))
    (installed c.args.ts value) (λ kk. c.in-Ok.ensures.versions c.args.ts kk (c.look-look.ensures.found kk)))
    (again_is ((shows c.args.ts vs).from == c.args.ts) c.count-count.result (is_marked c.args.ts vs) verdict).1 refl

pub returns-in-Ok-add-clause-puts : goal.returns-in-Ok-add-clause-puts
returns-in-Ok-add-clause-puts c =
    λ done h s here u.
    let r = c.args.self.now in
    let a = c.index_mut-chain.result.now in
    let value : Option (List ℕ) = c.args.value in
    let k = s.chains.held.kept c.args.i a c.index_mut-chain.ensures.value in
    let vs = versions_of r.pool a in
    let verdict = looked_at _ c.look-look.result c.args.ts c.count-count.result _ (c.look-look.ensures.found k) c.in-First.ensures in
    let at_ts : c.look-look.result.at ≡ c.args.ts = ap (λ (l : Look). l.at) (c.look-look.ensures.found k) in
    let lists = rw (c.in-Ok-from_slice.ensures.key, at_ts) at c.in-Ok-add.ensures.lists in
    puts_first h r (with_chain r c.args.i c.add.new.pool c.add.new.chain c.add.new.notes) c.args.key.now c.args.i c.args.ts vs value u s here (ap (shown_in r.pool) (sym c.index_mut-chain.ensures.value))
    (kept_with h r c.args.key.now c.args.i a c.add.new.chain c.add.new.pool c.add.new.notes s here c.index_mut-chain.ensures.value c.add.ensures.others (λ kk. c.add.ensures.kept c.args.ts kk (c.look-look.ensures.found kk))
    (installed c.args.ts value) (λ kk. c.in-Ok-add.ensures.versions c.args.ts kk (c.look-look.ensures.found kk)))
    (first_is ((shows c.args.ts vs).from == c.args.ts) c.count-count.result (is_marked c.args.ts vs) verdict).1 refl lists

pub returns-in-Ok-add-clause-keys : goal.returns-in-Ok-add-clause-keys
returns-in-Ok-add-clause-keys c =
    λ h key.
    let r = c.args.self.now in
    let first = few_first _ c.count-count.result _ c.in-First.ensures in
    let few : length (own_of c.args.ts r) < MOST_WRITES = omega (arith, first, c.count-count.ensures) in
    let noted = rw (c.in-Ok-from_slice.ensures.key, c.look-look.ensures.at) at c.in-Ok-add.ensures.noted in
    keys_put r.notes c.add.new.notes c.args.ts (record { key = c.args.key.now; index = c.args.i }) noted few key h

pub returns-in-Err-add-clause-keys : goal.returns-in-Err-add-clause-keys
returns-in-Err-add-clause-keys c = λ h key. keys_stay c.args.self.now.notes c.add.new.notes c.in-Err-add.ensures.unnoted h
