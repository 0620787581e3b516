use Rattle.std.proofs.Common.{ℕ, ◌≤◌, ◌<◌, ◌^◌, length, drop, decimal, ap, ◌∙◌, arith, length-append, length-drop}
use Rattle.std.proofs.lemmas.Fmt.{length-decimal-le}
use Rattle.dmf_text.proofs.line_buffer.LineBuffer.add_number.Goals as goal

-- a number below 2^64 has at most 20 digits
short : (n : ℕ) → n < 2 ^ 64 → length (decimal n) ≤ 20
short n small = length-decimal-le 20 n (omega arith) (omega arith) small

pub write_digits-self-inside-requires : goal.write_digits-self-inside-requires
write_digits-self-inside-requires c =
    let start = c.self.inside.start in
    let few = short c.args.number (omega arith) in
    let left = length-drop start c.self.inside.bytes in
    let same = ap length c.self.view_is in
    let most : start ≤ 80 = c.self.invariant in
    (omega (arith, few, left, same), omega arith)

pub returns-clause-len : goal.returns-clause-len
returns-clause-len c =
    let few = short c.args.number (omega arith) in
    let all = ap length c.write_digits-self-inside.ensures.written ∙ length-append (decimal c.args.number) (drop c.self.inside.start c.self.inside.bytes) in
    let same = ap length c.self.view_is in
    omega (arith, few, all, same)
