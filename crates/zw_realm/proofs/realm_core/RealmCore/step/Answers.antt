use Rattle.zw_realm.proofs.StepsRepresent.{step_represents}
use Rattle.zw_realm.proofs.realm_core.RealmCore.step.Goals as goal

pub returns-in-Commit-clause-reply : goal.returns-in-Commit-clause-reply
returns-in-Commit-clause-reply c = λ trace represents. (step_represents _ _ _ _ _ c.in-Commit.is c.requires c.commit.ensures trace represents).0

pub returns-in-Commit-clause-represents : goal.returns-in-Commit-clause-represents
returns-in-Commit-clause-represents c = λ trace represents. (step_represents _ _ _ _ _ c.in-Commit.is c.requires c.commit.ensures trace represents).1

pub returns-in-Fetch-clause-reply : goal.returns-in-Fetch-clause-reply
returns-in-Fetch-clause-reply c = λ trace represents. (step_represents _ _ _ _ _ c.in-Fetch.is c.requires c.fetch.ensures trace represents).0

pub returns-in-Fetch-clause-represents : goal.returns-in-Fetch-clause-represents
returns-in-Fetch-clause-represents c = λ trace represents. (step_represents _ _ _ _ _ c.in-Fetch.is c.requires c.fetch.ensures trace represents).1

pub returns-in-NoticeAll-clause-reply : goal.returns-in-NoticeAll-clause-reply
returns-in-NoticeAll-clause-reply c = λ trace represents. (step_represents _ _ _ _ _ c.in-NoticeAll.is c.requires c.notice_all.ensures trace represents).0

pub returns-in-NoticeAll-clause-represents : goal.returns-in-NoticeAll-clause-represents
returns-in-NoticeAll-clause-represents c = λ trace represents. (step_represents _ _ _ _ _ c.in-NoticeAll.is c.requires c.notice_all.ensures trace represents).1

pub returns-in-Take-clause-reply : goal.returns-in-Take-clause-reply
returns-in-Take-clause-reply c = λ trace represents. (step_represents _ _ _ _ _ c.in-Take.is c.requires c.take.ensures trace represents).0

pub returns-in-Take-clause-represents : goal.returns-in-Take-clause-represents
returns-in-Take-clause-represents c = λ trace represents. (step_represents _ _ _ _ _ c.in-Take.is c.requires c.take.ensures trace represents).1
