use Rattle.std.proofs.Common.{◌≡◌, ◌∙◌, ◌++◌, ℕ, List, [], Option, Some, None, Ok, Err, ap, sym, subst, take, rules}
use Rattle.std.proofs.lemmas.Result.{err_from_is_err_and}
use Rattle.std.specs.Io.BufRead.{strip_last, take_through}
use Rattle.std.specs.Prelude.{IfErr, IfSome, option_map}
use Rattle.xa_commands.specs.Secrets.{IsNoSecret, IsSecret, line_of}
use Rattle.xa_commands.specs.declared.secret.TheConstants.{MOST_LINE}
use Rattle.xa_commands.specs.declared.secret_fault.SecretFault.{SecretFault}
use Rattle.xa_commands.proofs.secret.read_secret.Goals as goal

-- what was read of a line that is known, without its end
stripped : (known : Option (List ℕ)) (line new text : List ℕ) → new ≡ []
    → IfSome (option_map (take MOST_LINE) known) (λ xs. line ≡ new ++ take_through 10 xs)
    → text ≡ strip_last 13 (strip_last 10 line) → IfSome known (λ xs. text ≡ line_of xs)
stripped None line new text none is ended = tt
stripped (Some xs) line new text none is ended =
    ended ∙ ap (λ (l : List ℕ). strip_last 13 (strip_last 10 l)) (is ∙ ap (λ (l : List ℕ). l ++ take_through 10 (take MOST_LINE xs)) none)

read : {I : Type 0} (remaining : I → Option (List ℕ)) (inner input : I) (limit : ℕ) (line new text : List ℕ) → inner ≡ input
    → limit ≡ MOST_LINE → new ≡ [] → IfSome (option_map (take limit) (remaining inner)) (λ xs. line ≡ new ++ take_through 10 xs)
    → text ≡ strip_last 13 (strip_last 10 line) → IfSome (remaining input) (λ xs. text ≡ line_of xs)
read {I} remaining inner input limit line new text same most none is ended = stripped (remaining input) line new text none
    (subst (λ (n : ℕ). IfSome (option_map (take n) (remaining input)) (λ xs. line ≡ new ++ take_through 10 xs)) most
    (subst (λ (i : I). IfSome (option_map (take limit) (remaining i)) (λ xs. line ≡ new ++ take_through 10 xs)) same is)) ended

both : (line slice front text : List ℕ) → slice ≡ line → front ≡ strip_last 10 slice → text ≡ strip_last 13 front
    → text ≡ strip_last 13 (strip_last 10 line)
both line slice front text same once twice = cc

unfit : (known : Option (List ℕ)) (text : List ℕ) (fault : SecretFault) → IfSome known (λ xs. text ≡ line_of xs) → IsNoSecret text fault
    → IfSome known (λ xs. IsNoSecret (line_of xs) fault)
unfit None text fault is wrong = tt
unfit (Some xs) text fault is wrong = subst (λ (l : List ℕ). IsNoSecret l fault) is wrong

fit : (known : Option (List ℕ)) (text items : List ℕ) → items ≡ text → IsSecret text → IfSome known (λ xs. text ≡ line_of xs)
    → IsSecret items × IfSome known (λ xs. items ≡ line_of xs)
fit known text items same is known_so = (
  subst IsSecret (sym same) is,
  subst (λ (l : List ℕ). IfSome known (λ xs. l ≡ line_of xs)) (sym same) known_so,
)

pub returns-in_err-check-clause-fault : goal.returns-in_err-check-clause-fault
returns-in_err-check-clause-fault g c =
    let p = err_from_is_err_and c.from_residual.result c.from_residual.ensures.1 in
    rw (p.1, p.2)
    (unfit (g.I.Read.remaining c.args.input) c.without_last-secret.result.now c.in_err-check.field-0.0
    (read g.I.Read.remaining c.take-front.result.inner c.args.input c.take-front.result.limit c.read_until.new.buf.items c.new-line.result.items
    c.without_last-secret.result.now c.take-front.ensures.inner c.take-front.ensures.limit c.new-line.ensures.items c.in_default.ensures.bytes
    (both c.read_until.new.buf.items c.as_slice.result.now c.without_last.result.now c.without_last-secret.result.now c.as_slice.ensures.value
    c.without_last.ensures c.without_last-secret.ensures))
    c.in_err-check.ensures)

pub returns-clause-secret : goal.returns-clause-secret
returns-clause-secret g c =
    let same : c.in_ok-to_vec.field-0.items ≡ c.without_last-secret.result.now = search rules in
    fit (g.I.Read.remaining c.args.input) c.without_last-secret.result.now c.in_ok-to_vec.field-0.items same c.in_ok-check.ensures
    (read g.I.Read.remaining c.take-front.result.inner c.args.input c.take-front.result.limit c.read_until.new.buf.items c.new-line.result.items
    c.without_last-secret.result.now c.take-front.ensures.inner c.take-front.ensures.limit c.new-line.ensures.items c.in_default.ensures.bytes
    (both c.read_until.new.buf.items c.as_slice.result.now c.without_last.result.now c.without_last-secret.result.now c.as_slice.ensures.value
    c.without_last.ensures c.without_last-secret.ensures))
