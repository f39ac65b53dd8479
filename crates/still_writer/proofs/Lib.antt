pub mod WriteLaws
