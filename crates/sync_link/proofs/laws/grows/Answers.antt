use Rattle.session_rules.proofs.Growing.{out_grows, got_grows, same_over}
use Rattle.sync_link.specs.Sessions.{session_of}
use Rattle.sync_link.proofs.laws.grows.Goals as goal

pub returns-clause-out : goal.returns-clause-out
returns-clause-out c = λ p rows bytes more. out_grows (session_of p rows) bytes more

pub returns-clause-got : goal.returns-clause-got
returns-clause-got c = λ p rows bytes more. got_grows (session_of p rows) bytes more

pub returns-clause-out_over : goal.returns-clause-out_over
returns-clause-out_over c = λ p rows bytes more over. (same_over (session_of p rows) bytes more over).0

pub returns-clause-got_over : goal.returns-clause-got_over
returns-clause-got_over c = λ p rows bytes more over. (same_over (session_of p rows) bytes more over).1

pub returns-clause-ending_over : goal.returns-clause-ending_over
returns-clause-ending_over c = λ p rows bytes more over. (same_over (session_of p rows) bytes more over).2
