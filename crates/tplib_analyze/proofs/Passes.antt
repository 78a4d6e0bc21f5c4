-- The number of passes is within what a report may name.
use Rattle.std.proofs.Common.{◌≡◌, ◌≤◌, ◌+◌, ◌*◌, ℕ, mul-le-mul_left, ap, arith}
use Rattle.report_texts.specs.Limits.{most_passes}

pub passes_within : (passes heads delay : ℕ) → passes ≤ heads * (delay + 4097 + 1) + 1 → heads ≤ 400 → delay ≤ 1000 →
    (passes ≤ heads * (delay + 4098) + 1) × (passes ≤ most_passes)
passes_within passes heads delay bound few small =
    let same : delay + 4097 + 1 ≡ delay + 4098 = omega arith in
    let turned : heads * (delay + 4097 + 1) ≡ heads * (delay + 4098) = ap (λ k. heads * k) same in
    let wide : heads * (delay + 4098) ≤ heads * 5098 = mul-le-mul_left {m = delay + 4098} {n = 5098} heads (omega
    arith) in
    (omega (arith, bound, turned), omega (arith, bound, turned, wide))
