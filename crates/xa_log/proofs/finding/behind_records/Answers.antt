use Rattle.std.proofs.Common.{◌≡◌, ◌∙◌, ap, arith, cond, length, refl, sym, Bool, true, false, Some, None}
use Rattle.xa_log.specs.Believed.Damage.{is_damaged}
use Rattle.xa_log.specs.Finding.{behind_last}
use Rattle.xa_log.proofs.Choosing.{scan_damaged}
use Rattle.xa_log.proofs.Told.{behind_read}
use Rattle.xa_log.proofs.finding.behind_records.Goals as goal

pub returns-then-not-scan : goal.returns-then-not-scan
returns-then-not-scan c = λ file it headed.
    let whole : is_damaged file ≡ false = sym (scan_damaged file c.args.scan.now it headed) ∙ c.if-not-scan.true in
    sym (ap (λ (t : Bool). cond t (Some (behind_last c.args.on_first file)) None) whole)

pub returns : goal.returns
returns c = λ file it headed.
    let damaged : is_damaged file ≡ true = sym (scan_damaged file c.args.scan.now it headed) ∙ c.if-not-scan.false in
    let count : c.len.result ≡ length c.args.scan.now.bodies.items = omega arith in
    ap Some (behind_read c.args.on_first file c.args.scan.now c.len.result _ it count refl) ∙ sym (ap (λ (t : Bool). cond t (Some (behind_last c.args.on_first file)) None) damaged)
