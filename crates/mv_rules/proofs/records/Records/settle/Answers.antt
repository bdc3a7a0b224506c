use Rattle.std.proofs.Common.{◌∙◌, ◌≡◌, [], refl, sym, ap, subst, List, length, arith}
use Rattle.std.proofs.lemmas.Bool.Decides.{nat_tests}
use Rattle.mv_rules.specs.declared.own.Own.{Own}
use Rattle.mv_rules.specs.declared.records.Records.{Records}
use Rattle.mv_rules.specs.Records.{own_of}
use Rattle.mv_rules.specs.Steps.{SettlesListed}
use Rattle.mv_rules.proofs.Settled.{stands_settled}
use Rattle.mv_rules.proofs.Exact.{kept_settled, nothing_settled, settles_nothing, own_nowhere, own_there, own_empty}
use Rattle.mv_rules.proofs.Within.{keys_of_one, keys_of_none, one_becomes, others_stay}
use Rattle.mv_rules.proofs.records.Records.settle.Goals as goal

pub returns-in_default-clause-stands : goal.returns-in_default-clause-stands
returns-in_default-clause-stands c = λ h s u. nothing_settled h c.args.self.now c.args.ts c.args.fate (own_nowhere c.args.self.now c.args.ts (sym c.in_default.ensures.value)) u s

pub returns-in_default-clause-settles : goal.returns-in_default-clause-settles
returns-in_default-clause-settles c = λ h s. settles_nothing c.args.self.now c.args.ts c.args.fate (own_nowhere c.args.self.now c.args.ts (sym c.in_default.ensures.value))

pub returns-then-is_empty-clause-stands : goal.returns-then-is_empty-clause-stands
returns-then-is_empty-clause-stands c =
    λ h s u.
    let few : length c.in-Some.noted.now.written.items ≡ 0 = grind (arith, nat_tests, c.is_empty.ensures, c.if-is_empty.true, c.in-Some.noted.now.written.ok.0) in
    nothing_settled h c.args.self.now c.args.ts c.args.fate (own_empty c.args.self.now c.args.ts c.in-Some.noted.now (sym c.in-Some.ensures.value) few) u s

pub returns-then-is_empty-clause-settles : goal.returns-then-is_empty-clause-settles
returns-then-is_empty-clause-settles c =
    λ h s.
    let few : length c.in-Some.noted.now.written.items ≡ 0 = grind (arith, nat_tests, c.is_empty.ensures, c.if-is_empty.true, c.in-Some.noted.now.written.ok.0) in
    settles_nothing c.args.self.now c.args.ts c.args.fate (own_empty c.args.self.now c.args.ts c.in-Some.noted.now (sym c.in-Some.ensures.value) few)

pub returns-clause-stands : goal.returns-clause-stands
returns-clause-stands c =
    λ h s u.
    let r = c.args.self.now in
    let same : c.deref.result.now ≡ own_of c.args.ts r = c.deref.ensures.value ∙ sym (own_there r c.args.ts c.in-Some.noted.now (sym c.in-Some.ensures.value)) in
    let done : SettlesListed c.args.ts c.args.fate (own_of c.args.ts r) r.pool r.chains c.settle_all.new.pool c.settle_all.new.chains =
    subst (λ (own : List Own). SettlesListed c.args.ts c.args.fate own r.pool r.chains c.settle_all.new.pool c.settle_all.new.chains) same (c.settle_all.ensures.settled s.chains.held) in
    stands_settled h r _ c.args.ts c.args.fate u (λ q. refl) done (λ t. c.keep_decided.ensures.others t) s

pub returns-clause-settles : goal.returns-clause-settles
returns-clause-settles c =
    λ h s.
    let r = c.args.self.now in
    let there = own_there r c.args.ts c.in-Some.noted.now (sym c.in-Some.ensures.value) in
    let same : c.deref.result.now ≡ own_of c.args.ts r = c.deref.ensures.value ∙ sym there in
    let done : SettlesListed c.args.ts c.args.fate (own_of c.args.ts r) r.pool r.chains c.settle_all.new.pool c.settle_all.new.chains =
    subst (λ (own : List Own). SettlesListed c.args.ts c.args.fate own r.pool r.chains c.settle_all.new.pool c.settle_all.new.chains) same (c.settle_all.ensures.settled s.chains.held) in
    let left : Records = record { alloc = r.alloc; indices = r.indices; chains = c.settle_all.new.chains; pool = c.settle_all.new.pool; notes = c.keep_decided.new.notes } in
    record {
      kept = kept_settled h r left c.args.ts c.args.fate (λ q. refl) done s;
      some = λ more. c.keep_decided.ensures.noted more;
      none = λ e.
          let few : length c.in-Some.noted.now.written.items ≡ 0 = ap length (sym there ∙ e) in
          absurd (grind (arith, nat_tests, c.is_empty.ensures, c.if-is_empty.false, c.in-Some.noted.now.written.ok.0, few));
    }

pub returns-in_default-clause-decided : goal.returns-in_default-clause-decided
returns-in_default-clause-decided c = own_nowhere c.args.self.now c.args.ts (sym c.in_default.ensures.value)

pub returns-then-is_empty-clause-decided : goal.returns-then-is_empty-clause-decided
returns-then-is_empty-clause-decided c =
    let few : length c.in-Some.noted.now.written.items ≡ 0 = grind (arith, nat_tests, c.is_empty.ensures, c.if-is_empty.true, c.in-Some.noted.now.written.ok.0) in
    own_empty c.args.self.now c.args.ts c.in-Some.noted.now (sym c.in-Some.ensures.value) few

pub returns-clause-decided : goal.returns-clause-decided
returns-clause-decided c = one_becomes c.args.self.now.notes c.keep_decided.new.notes c.args.ts [] c.keep_decided.ensures.others

pub returns-clause-others : goal.returns-clause-others
returns-clause-others c = others_stay c.args.self.now.notes c.keep_decided.new.notes c.args.ts [] c.keep_decided.ensures.others

pub returns-clause-keys : goal.returns-clause-keys
returns-clause-keys c =
    let r = c.args.self.now in
    let notes = c.keep_decided.new.notes in
    let left : Records = record { alloc = r.alloc; indices = r.indices; chains = c.settle_all.new.chains; pool = c.settle_all.new.pool; notes = notes } in
    keys_of_one r left c.args.ts 0 (omega arith) (keys_of_none _ (one_becomes r.notes notes c.args.ts [] c.keep_decided.ensures.others)) (others_stay r.notes notes c.args.ts [] c.keep_decided.ensures.others)
