pub mod GameSources
