use Rattle.std.proofs.Common.{◌<◌, ◌^◌, ◌+◌, ◌%◌, [], ◌∷◌, ◌++◌, length, ap, ◌∙◌, arith}
use Rattle.xa_scram.proofs.Decimals.{length-decimal_at, room_after, room_first, after_more, after_one}
use Rattle.xa_scram.proofs.number.+put_decimal.Goals as goal
use Rattle.xa_scram.proofs.number.+put_decimal.Goals.{then-n-ge10, else-n-ge10}

pub put_decimal-requires : goal.put_decimal-requires
put_decimal-requires t c =
    let small : c.args.n < 2 ^ 32 = omega arith in
    (omega arith, omega (arith, length-decimal_at c.args.n small c.if-n-ge10.true))

pub push-requires : goal.push-requires
push-requires t c =
    let small : c.args.n < 2 ^ 32 = omega arith in (
      omega arith,
      elim c.if-n-ge10.branch [
        | then-n-ge10 w ↦ room_after c.args.out.now.items c.if-n-ge10.out.items c.args.n small w.if-n-ge10.true (ap (λ o. o.items) w.out-is
            ∙ w.put_decimal.ensures) c.requires
        | else-n-ge10 w ↦ omega (arith, room_first c.args.out.now.items c.args.n w.if-n-ge10.false c.requires, ap (λ o. length o.items) w.out-is)
      ],
    )

pub returns : goal.returns
returns t c =
    let small : c.args.n < 2 ^ 32 = omega arith in
    elim c.if-n-ge10.branch [
      | then-n-ge10 w ↦ after_more c.args.out.now.items c.if-n-ge10.out.items c.push.new.self.items c.args.n small w.if-n-ge10.true
          (ap (λ o. o.items) w.out-is ∙ w.put_decimal.ensures) c.push.ensures.items
      | else-n-ge10 w ↦ after_one c.args.out.now.items c.push.new.self.items c.args.n w.if-n-ge10.false (c.push.ensures.items
          ∙ ap (λ o. o.items ++ (48 + c.args.n % 10) ∷ []) w.out-is)
    ]
