use Rattle.std.proofs.Common.{◌≡◌, ◌∙◌, ap, rules, ℕ, List, [], Option}
use Rattle.std.specs.Option.{option_map_or}
use Rattle.mv_rules.specs.declared.own.Notes.{Notes}
use Rattle.xa_codes.specs.declared.write.Write.{Write}
use Rattle.mv_chain.specs.Accesses.{IsUndecided}
use Rattle.mv_rules.specs.Accesses.{Accesses, IsWritesOf, IsAscending}
use Rattle.mv_rules.specs.Records.{StandsFor, own_of}
use Rattle.mv_rules.specs.Within.{IsWithin, AreShort, HasKeys, HaveKeys}
use Rattle.mv_rules.proofs.Gathered.{ascending_entries, listed_entries, collected_is, writes_result}
use Rattle.mv_rules.proofs.records.Records.writes_of.Goals as goal

pub returns-in_ok-values-in-Some-clause-writes : goal.returns-in_ok-values-in-Some-clause-writes
returns-in_ok-values-in-Some-clause-writes c =
    let own : c.deref.result.now ≡ own_of c.args.ts c.args.self.now = c.deref.ensures.value ∙ ap (λ (o : Option Notes). option_map_or (λ (n : Notes). n.written.items) o []) c.in-Some.ensures.value in
    writes_result c.listed.result c.in_ok-values-in-Some.values.entries (λ (ws : List Write). (h : Accesses) → StandsFor h c.args.self.now → IsUndecided c.args.ts h.writes → IsWritesOf c.args.ts h.writes ws) c.listed.ensures
    (λ h s u. record {
      ascending = ascending_entries c.in_ok-values-in-Some.values.entries c.in_ok-values-in-Some.ensures.ordered;
      last = λ q. listed_entries q c.in_ok-values-in-Some.values.entries ∙ (c.in_ok-values-in-Some.ensures.values s.chains.held q ∙ (rw own (collected_is h c.args.self.now c.args.ts q s u)));
    })

pub returns-in-None-clause-writes : goal.returns-in-None-clause-writes
returns-in-None-clause-writes c =
    λ h s u.
    let none : own_of c.args.ts c.args.self.now ≡ [] = search rules in
    record {
      ascending = rw c.new.ensures.items tt;
      last = λ q. rw c.new.ensures.items (rw none at (collected_is h c.args.self.now c.args.ts q s u));
    }

pub returns-in_ok-values-in-Some-clause-short : goal.returns-in_ok-values-in-Some-clause-short
returns-in_ok-values-in-Some-clause-short c =
    writes_result c.listed.result c.in_ok-values-in-Some.values.entries (λ (ws : List Write). (n : ℕ) → IsWithin n c.args.self.now → AreShort n ws) c.listed.ensures
    (λ n h. c.in_ok-values-in-Some.ensures.short n h)

pub returns-in_ok-values-in-Some-clause-ascending : goal.returns-in_ok-values-in-Some-clause-ascending
returns-in_ok-values-in-Some-clause-ascending c =
    let es = c.in_ok-values-in-Some.values.entries in
    writes_result c.listed.result es IsAscending c.listed.ensures (ascending_entries es c.in_ok-values-in-Some.ensures.ordered)

pub returns-in_ok-values-in-Some-clause-keys : goal.returns-in_ok-values-in-Some-clause-keys
returns-in_ok-values-in-Some-clause-keys c =
    let own : c.deref.result.now ≡ own_of c.args.ts c.args.self.now = c.deref.ensures.value ∙ ap (λ (o : Option Notes). option_map_or (λ (n : Notes). n.written.items) o []) c.in-Some.ensures.value in
    writes_result c.listed.result c.in_ok-values-in-Some.values.entries (λ (ws : List Write). HasKeys c.args.self.now → HaveKeys ws) c.listed.ensures
    (λ h. c.in_ok-values-in-Some.ensures.keys (rw own (h c.args.ts)))
