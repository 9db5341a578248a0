use Rattle.card_cases.proofs.Saved.{durable}
use Rattle.card_cases.proofs.save.save.Goals as goal

pub returns-clause-durable : goal.returns-clause-durable
returns-clause-durable g c = λ _. durable _ _ _ _ _ c.in_ok-write.ensures.value c.in_ok-write.ensures.card c.barrier.ensures.card
