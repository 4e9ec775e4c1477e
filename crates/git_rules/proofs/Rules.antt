-- Tables of rules: ranks, the first bases of fronts, the records of a table, the rule that wins.
pub mod RankLemmas
pub mod FrontLemmas
pub mod TableLemmas
pub mod WinLemmas
pub mod UniqueLemmas
pub mod EntryLemmas
pub mod PushLemmas
