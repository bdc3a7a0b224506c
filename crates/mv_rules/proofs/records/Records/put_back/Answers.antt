use Rattle.std.proofs.Common.{◌≡◌, ◌∙◌, [], ◌∷◌, ◌++◌, refl, sym, ap, true, false, List, ℕ, Option, arith}
use Rattle.std.specs.Prelude.{◌==◌}
use Rattle.std.proofs.lemmas.Bool.Decides.{nat_tests}
use Rattle.mv_chain.specs.declared.look.Look.{Look}
use Rattle.mv_chain.specs.Chain.{shows, installed}
use Rattle.mv_chain.specs.Pool.{versions_of}
use Rattle.mv_rules.proofs.Changed.{back_again_at, back_first_at}
use Rattle.mv_rules.specs.Held.{shown_in}
use Rattle.mv_rules.specs.Own.{own_in}
use Rattle.mv_rules.specs.declared.own.Own.{Own}
use Rattle.mv_rules.proofs.Changed.{with_chain}
use Rattle.mv_rules.proofs.Tidied.{kept_with}
use Rattle.mv_rules.proofs.Exact.{puts_again, puts_first, puts_indexed}
use Rattle.mv_chain.proofs.Frames.{then_ok}
use Rattle.mv_rules.proofs.PutBack.{both_ok}
use Rattle.mv_rules.proofs.Within.{notes_alike, keys_same, keys_added, others_added}
use Rattle.mv_rules.proofs.records.Records.put_back.Goals as goal

pub returns-then-look-ts-clause-stands : goal.returns-then-look-ts-clause-stands
returns-then-look-ts-clause-stands c =
    let value : Option (List ℕ) = c.args.value in
    then_ok c.install_at.result c.install_at.ensures.stands
    (λ written. λ h s u timely.
    let stood = c.in_ok-i.ensures.stands h s in
    let k = stood.chains.held.kept c.in_ok-i.i c.index_mut-chain.result.now c.index_mut-chain.ensures.value in
    let is = c.look-look.ensures.found k in
    let from : c.look-look.result.from ≡ (shows c.args.ts (versions_of c.find_or_make.new.self.pool c.index_mut-chain.result.now)).from = ap (λ (l : Look). l.from) is in
    let own : ((shows c.args.ts (versions_of c.find_or_make.new.self.pool c.index_mut-chain.result.now)).from == c.args.ts) ≡ true = grind (arith, nat_tests, from, c.if-look-ts.true) in
    back_again_at h c.find_or_make.new.self c.args.key.now c.in_ok-i.i c.index_mut-chain.result.now c.install_at.new.self c.install_at.new.pool c.find_or_make.new.self.notes stood c.in_ok-i.ensures.index c.index_mut-chain.ensures.value c.install_at.ensures.others (λ kk. c.install_at.ensures.kept c.args.ts kk (c.look-look.ensures.found kk)) c.args.ts value u timely own
    (λ key low ws rs st un late. written c.args.ts key low ws rs k is st un late) (λ t. refl))

pub returns-clause-stands : goal.returns-clause-stands
returns-clause-stands c =
    let value : Option (List ℕ) = c.args.value in
    both_ok c.add.result c.add.ensures.ok c.add.ensures.noted
    (λ written noted. λ h s u timely.
    let stood = c.in_ok-i.ensures.stands h s in
    let k = stood.chains.held.kept c.in_ok-i.i c.index_mut-chain.result.now c.index_mut-chain.ensures.value in
    let is = c.look-look.ensures.found k in
    let from : c.look-look.result.from ≡ (shows c.args.ts (versions_of c.find_or_make.new.self.pool c.index_mut-chain.result.now)).from = ap (λ (l : Look). l.from) is in
    let at_ts : c.look-look.result.at ≡ c.args.ts = ap (λ (l : Look). l.at) is in
    let other : ((shows c.args.ts (versions_of c.find_or_make.new.self.pool c.index_mut-chain.result.now)).from == c.args.ts) ≡ false = grind (arith, nat_tests, from, c.if-look-ts.false) in
    back_first_at h c.find_or_make.new.self c.args.key.now c.in_ok-i.i c.index_mut-chain.result.now c.add.new.chain c.add.new.pool c.add.new.notes stood c.in_ok-i.ensures.index c.index_mut-chain.ensures.value c.add.ensures.others (λ kk. c.add.ensures.kept c.args.ts kk (c.look-look.ensures.found kk)) c.args.ts value u timely other
    (written c.args.ts k is) (rw (c.in_ok-from_slice.ensures.key, at_ts) at noted))

pub returns-then-look-ts-clause-puts : goal.returns-then-look-ts-clause-puts
returns-then-look-ts-clause-puts c =
    let value : Option (List ℕ) = c.args.value in
    let made = c.find_or_make.new.self in
    let a = c.index_mut-chain.result.now in
    then_ok c.install_at.result c.install_at.ensures.versions
    (λ written. λ h s u.
    let stood = c.in_ok-i.ensures.stands h s in
    let k = stood.chains.held.kept c.in_ok-i.i a c.index_mut-chain.ensures.value in
    let vs = versions_of made.pool a in
    let from : c.look-look.result.from ≡ (shows c.args.ts vs).from = ap (λ (l : Look). l.from) (c.look-look.ensures.found k) in
    let own : ((shows c.args.ts vs).from == c.args.ts) ≡ true = grind (arith, nat_tests, from, c.if-look-ts.true) in
    let left = with_chain made c.in_ok-i.i c.install_at.new.pool c.install_at.new.self made.notes in
    puts_indexed c.args.key.now c.args.self.now made left c.args.ts value (c.in_ok-i.ensures.known h s) (c.in_ok-i.ensures.made h s) c.in_ok-i.ensures.notes
    (puts_again h made left c.args.key.now c.in_ok-i.i c.args.ts vs value u stood c.in_ok-i.ensures.index (ap (shown_in made.pool) (sym c.index_mut-chain.ensures.value))
    (kept_with h made c.args.key.now c.in_ok-i.i a c.install_at.new.self c.install_at.new.pool made.notes stood c.in_ok-i.ensures.index c.index_mut-chain.ensures.value c.install_at.ensures.others (λ kk. c.install_at.ensures.kept c.args.ts kk (c.look-look.ensures.found kk))
    (installed c.args.ts value) (λ kk. written c.args.ts kk (c.look-look.ensures.found kk)))
    own refl))

pub returns-clause-puts : goal.returns-clause-puts
returns-clause-puts c =
    let value : Option (List ℕ) = c.args.value in
    let made = c.find_or_make.new.self in
    let a = c.index_mut-chain.result.now in
    both_ok c.add.result c.add.ensures.versions c.add.ensures.lists
    (λ written noted. λ h s u.
    let stood = c.in_ok-i.ensures.stands h s in
    let k = stood.chains.held.kept c.in_ok-i.i a c.index_mut-chain.ensures.value in
    let vs = versions_of made.pool a in
    let from : c.look-look.result.from ≡ (shows c.args.ts vs).from = ap (λ (l : Look). l.from) (c.look-look.ensures.found k) in
    let at_ts : c.look-look.result.at ≡ c.args.ts = ap (λ (l : Look). l.at) (c.look-look.ensures.found k) in
    let other : ((shows c.args.ts vs).from == c.args.ts) ≡ false = grind (arith, nat_tests, from, c.if-look-ts.false) in
    let left = with_chain made c.in_ok-i.i c.add.new.pool c.add.new.chain c.add.new.notes in
    puts_indexed c.args.key.now c.args.self.now made left c.args.ts value (c.in_ok-i.ensures.known h s) (c.in_ok-i.ensures.made h s) c.in_ok-i.ensures.notes
    (puts_first h made left c.args.key.now c.in_ok-i.i c.args.ts vs value u stood c.in_ok-i.ensures.index (ap (shown_in made.pool) (sym c.index_mut-chain.ensures.value))
    (kept_with h made c.args.key.now c.in_ok-i.i a c.add.new.chain c.add.new.pool c.add.new.notes stood c.in_ok-i.ensures.index c.index_mut-chain.ensures.value c.add.ensures.others (λ kk. c.add.ensures.kept c.args.ts kk (c.look-look.ensures.found kk))
    (installed c.args.ts value) (λ kk. written c.args.ts kk (c.look-look.ensures.found kk)))
    other refl (rw (c.in_ok-from_slice.ensures.key, at_ts) at noted)))

-- what the branch and the others have written

pub returns-in_err-i-clause-keys : goal.returns-in_err-i-clause-keys
returns-in_err-i-clause-keys c = λ n h key. keys_same n _ _ (notes_alike _ _ c.find_or_make.ensures.notes c.args.ts) h

pub returns-in_err-i-clause-others : goal.returns-in_err-i-clause-others
returns-in_err-i-clause-others c = λ t other. notes_alike _ _ c.find_or_make.ensures.notes t

pub returns-then-look-ts-clause-keys : goal.returns-then-look-ts-clause-keys
returns-then-look-ts-clause-keys c = λ n h key. keys_same n _ _ (notes_alike _ _ c.find_or_make.ensures.notes c.args.ts) h

pub returns-then-look-ts-clause-others : goal.returns-then-look-ts-clause-others
returns-then-look-ts-clause-others c = λ t other. notes_alike _ _ c.find_or_make.ensures.notes t

pub returns-in_err-from_slice-clause-keys : goal.returns-in_err-from_slice-clause-keys
returns-in_err-from_slice-clause-keys c = λ n h key. keys_same n _ _ (notes_alike _ _ c.find_or_make.ensures.notes c.args.ts) h

pub returns-in_err-from_slice-clause-others : goal.returns-in_err-from_slice-clause-others
returns-in_err-from_slice-clause-others c = λ t other. notes_alike _ _ c.find_or_make.ensures.notes t

pub returns-clause-keys : goal.returns-clause-keys
returns-clause-keys c = λ n h key.
    let made = c.find_or_make.new.self in
    let o : Own = record { key = c.args.key.now; index = c.in_ok-i.i } in
    let noted = rw (c.in_ok-from_slice.ensures.key, c.look-look.ensures.at) at c.add.ensures.noted in
    let own : own_in c.args.ts made.notes ≡ own_in c.args.ts c.args.self.now.notes = notes_alike _ _ c.find_or_make.ensures.notes c.args.ts in
    keys_added c.add.result made.notes c.add.new.notes c.args.ts o noted c.add.ensures.unnoted n (rw own h) key

pub returns-clause-others : goal.returns-clause-others
returns-clause-others c = λ t other.
    let made = c.find_or_make.new.self in
    let o : Own = record { key = c.args.key.now; index = c.in_ok-i.i } in
    let noted = rw (c.in_ok-from_slice.ensures.key, c.look-look.ensures.at) at c.add.ensures.noted in
    others_added c.add.result made.notes c.add.new.notes c.args.ts (own_in c.args.ts made.notes ++ o ∷ []) noted c.add.ensures.unnoted t other ∙ notes_alike _ _ c.find_or_make.ensures.notes t
