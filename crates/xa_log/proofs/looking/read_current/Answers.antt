use Rattle.std.proofs.Common.{List, ℕ, subst, true, false, take, Some, Bool, cond, ◌≡◌}
use Rattle.xa_log.specs.Looking.{Chooses, IsHead, FetchedHead}
use Rattle.xa_log.specs.declared.heads.Head.{Head}
use Rattle.xa_log.proofs.Choosing.{magic_of}
use Rattle.xa_log.proofs.looking.read_current.Goals as goal
use Rattle.xa_log.proofs.looking.read_current.Goals.{In-Some-true-default, In-Some-false-default}

first_chosen : (g : _) (c : goal.In-Some-true-default g) → c.args.heads.0 ≡ Some c.in-Some-true-default.head
first_chosen g c = subst (λ (t : Bool). cond t c.args.heads.0 c.args.heads.1 ≡ Some c.in-Some-true-default.head) c.in-Some-true-default.field-0-0-test c.in-Some-true-default.ensures.chosen

second_chosen : (g : _) (c : goal.In-Some-false-default g) → c.args.heads.1 ≡ Some c.in-Some-false-default.head
second_chosen g c = subst (λ (t : Bool). cond t c.args.heads.0 c.args.heads.1 ≡ Some c.in-Some-false-default.head) c.in-Some-false-default.field-0-0-test c.in-Some-false-default.ensures.chosen

pub returns-in_ok-scan-in-Some-true-default-clause-value : goal.returns-in_ok-scan-in-Some-true-default-clause-value
returns-in_ok-scan-in-Some-true-default-clause-value g c h one two front other_front =
    let a : List ℕ = g.D.Disk.seen c.args.first.now in
    let b : List ℕ = g.D.Disk.seen c.args.second.now in
    let head : Head = c.in-Some-true-default.head in
    let it : Chooses a b (Some (true, head)) = subst (λ t. Chooses a b (Some (t, head))) c.in-Some-true-default.field-0-0-test (c.in-Some-true-default.ensures.choice a _ b _ front other_front) in
    let chosen = first_chosen g (goal.at.returns-in_ok-scan-in-Some-true-default-clause-value g c).In-Some-true-default in
    let is : IsHead a c.args.window.now (Some head) = subst (λ o. IsHead a c.args.window.now o) chosen front in
    (it.0, record { choice = it.1; scan_is = c.in_ok-scan-in-Some-true-default.ensures.value h one (magic_of (take 8 a) _ is.0) is.1 })

pub returns-in_ok-scan-in-Some-false-default-clause-value : goal.returns-in_ok-scan-in-Some-false-default-clause-value
returns-in_ok-scan-in-Some-false-default-clause-value g c h one two front other_front =
    let a : List ℕ = g.D.Disk.seen c.args.first.now in
    let b : List ℕ = g.D.Disk.seen c.args.second.now in
    let head : Head = c.in-Some-false-default.head in
    let it : Chooses a b (Some (false, head)) = subst (λ t. Chooses a b (Some (t, head))) c.in-Some-false-default.field-0-0-test (c.in-Some-false-default.ensures.choice a _ b _ front other_front) in
    let chosen = second_chosen g (goal.at.returns-in_ok-scan-in-Some-false-default-clause-value g c).In-Some-false-default in
    let is : IsHead b c.args.other_window.now (Some head) = subst (λ o. IsHead b c.args.other_window.now o) chosen other_front in
    (it.0, record { choice = it.1; scan_is = c.in_ok-scan-in-Some-false-default.ensures.value h two (magic_of (take 8 b) _ is.0) is.1 })

pub returns-in-None-clause-value : goal.returns-in-None-clause-value
returns-in-None-clause-value g c h one two front other_front none =
    let a : List ℕ = g.D.Disk.seen c.args.first.now in
    let b : List ℕ = g.D.Disk.seen c.args.second.now in
    c.in-None.ensures.choice a _ b _ front other_front

pub returns-in_ok-scan-in-Some-true-default-clause-end : goal.returns-in_ok-scan-in-Some-true-default-clause-end
returns-in_ok-scan-in-Some-true-default-clause-end g c = c.in_ok-scan-in-Some-true-default.ensures.end

pub returns-in_ok-scan-in-Some-false-default-clause-end : goal.returns-in_ok-scan-in-Some-false-default-clause-end
returns-in_ok-scan-in-Some-false-default-clause-end g c = c.in_ok-scan-in-Some-false-default.ensures.end

pub returns-in_ok-scan-in-Some-true-default-clause-fetched : goal.returns-in_ok-scan-in-Some-true-default-clause-fetched
returns-in_ok-scan-in-Some-true-default-clause-fetched g c begin most f =
    let chosen = first_chosen g (goal.at.returns-in_ok-scan-in-Some-true-default-clause-fetched g c).In-Some-true-default in
    c.in_ok-scan-in-Some-true-default.ensures.fetched begin most (subst (λ o. FetchedHead c.args.lens.0 most begin (g.D.Disk.counts c.args.first.now) o) chosen f)

pub returns-in_err-scan-in-Some-true-default-clause-fetched : goal.returns-in_err-scan-in-Some-true-default-clause-fetched
returns-in_err-scan-in-Some-true-default-clause-fetched g c begin most f =
    let chosen = first_chosen g (goal.at.returns-in_err-scan-in-Some-true-default-clause-fetched g c).In-Some-true-default in
    c.in_err-scan-in-Some-true-default.ensures.fetched begin most (subst (λ o. FetchedHead c.args.lens.0 most begin (g.D.Disk.counts c.args.first.now) o) chosen f)

pub returns-in_ok-scan-in-Some-false-default-clause-fetched_second : goal.returns-in_ok-scan-in-Some-false-default-clause-fetched_second
returns-in_ok-scan-in-Some-false-default-clause-fetched_second g c begin most f =
    let chosen = second_chosen g (goal.at.returns-in_ok-scan-in-Some-false-default-clause-fetched_second g c).In-Some-false-default in
    c.in_ok-scan-in-Some-false-default.ensures.fetched begin most (subst (λ o. FetchedHead c.args.lens.1 most begin (g.D.Disk.counts c.args.second.now) o) chosen f)

pub returns-in_err-scan-in-Some-false-default-clause-fetched_second : goal.returns-in_err-scan-in-Some-false-default-clause-fetched_second
returns-in_err-scan-in-Some-false-default-clause-fetched_second g c begin most f =
    let chosen = second_chosen g (goal.at.returns-in_err-scan-in-Some-false-default-clause-fetched_second g c).In-Some-false-default in
    c.in_err-scan-in-Some-false-default.ensures.fetched begin most (subst (λ o. FetchedHead c.args.lens.1 most begin (g.D.Disk.counts c.args.second.now) o) chosen f)
