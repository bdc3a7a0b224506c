-- What an opening leaves out of the current file.
use Rattle.std.proofs.Common.{◌≡◌, ℕ, Bool, List, [], length, refl, sym, ◌∙◌, ap, cond, None}
use Rattle.std.specs.Prelude.{Vec}
use Rattle.std.specs.declared.alloc.Global.{Global}
use Rattle.std.proofs.lemmas.List.{length-map}
use Rattle.xa_log.specs.Believed.Chain.{format_in, logged, text}
use Rattle.xa_log.specs.Believed.LeftOut.{left_out}
use Rattle.xa_log.specs.Looking.{IsCurrent}
use Rattle.xa_log.specs.Opened.{passed_by, passed_of, passed_of_file}
use Rattle.xa_log.specs.Reading.{IsScan, bodies_of}
use Rattle.xa_log.specs.declared.reading.Scan.{Scan}
use Rattle.xa_log.proofs.Records.{format_text, rests_logged}

-- of a file that was read
scan_left : (first : Bool) (file : List ℕ) (scan : Scan) → IsScan file scan → passed_by first scan.end (length scan.left.items) ≡ passed_of_file first file
scan_left first file scan it =
    let bodies : List (List ℕ) = bodies_of scan.bodies.items in
    let format : format_in file ≡ scan.format = ap format_in it.rests.split ∙ format_text scan.format bodies it.rests.rest in
    let log : logged file ≡ bodies = rests_logged scan.format bodies file it.rests in
    let many : length scan.left.items ≡ length (left_out scan.format bodies file) = sym (length-map scan.left.items (λ (b : Vec ℕ Global). b.items)) ∙ ap (λ (l : List (List ℕ)). length l) it.left in
    (λ i. passed_by first (it.end i) (many i))
    ∙ sym (λ i. passed_by first (length (text (format i) (log i))) (length (left_out (format i) (log i) file)))

-- of two
pub current_left : (a b : List ℕ) (first : Bool) (scan : Scan) → IsCurrent a b first scan → passed_by first scan.end (length scan.left.items) ≡ passed_of a b
current_left a b first scan it =
    scan_left first (cond first a b) scan it.scan_is ∙ ap (λ (t : Bool). passed_of_file t (cond t a b)) it.choice

-- of two empty ones nothing
pub none_passed_of : passed_of [] [] ≡ None
none_passed_of = refl
