-- What an answer tells of the block and the buffer.
use Rattle.std.proofs.Common.{◌≡◌, ℕ, ◌<◌, ◌≤◌, Ok, Err, arith}
use Rattle.std.proofs.lemmas.Bool.Decides.{nat_tests}
use Rattle.cards.specs.declared.fault.Fault.{Fault}
use Rattle.cards.specs.Answers.{answer}

pub admitted : (size b n : ℕ) (u : Unit {0}) → Ok u ≡ answer size b n → (n ≡ 512) × (b < size)
admitted size b n u e = (grind (arith, nat_tests), grind (arith, nat_tests))

pub refused_past : (size b n : ℕ) (f : Fault) → n ≡ 512 → Err f ≡ answer size b n → size ≤ b
refused_past size b n f whole e = grind (arith, nat_tests)
